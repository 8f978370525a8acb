-- What a question says beside the descriptor: the object types that it asks about, whom PRINCIPAL SELF stands for, and
-- what the conditions of entries come to.
use Rattle.std.specs.Prelude.{ℕ, Bool, false, List, Option, Some, None}
use Rattle.sd_sid.specs.Sid.{SidValue}
use Rattle.sd_acl.specs.declared.ace.AceKind.{AceKind}
use Rattle.sd_check.specs.Token.{is_restricted}
use Rattle.sd_check.specs.declared.grounds.Pass.{Pass}
use Rattle.sd_condition.specs.Reading.{condition_read}
use Rattle.sd_condition.specs.declared.token.Token.{Token}
use Rattle.sd_evaluation.specs.Evaluation.{condition_truth}
use Rattle.sd_evaluation.specs.Facts.{FactsValue}
use Rattle.sd_evaluation.specs.declared.truth.Truth.{Truth}
use Rattle.sd_evaluation.specs.declared.truth.Truth.TheVariants.{Unknown}
use Rattle.sd_whole.specs.declared.types.Guid.{Guid}
use Rattle.sd_specialize.specs.declared.context.Conditions.{Conditions}
use Rattle.sd_specialize.specs.declared.context.Conditions.TheVariants.{Evaluated}
use Rattle.sd_specialize.specs.declared.context.Conditions.TheVariants as known
use Rattle.sd_specialize.specs.declared.context.Context.{Context}

pub record ContextValue : Type 0 where
  -- the object types asked about, from the class on, as in 2.5.3.2's ObjectTypeList; none asks about the whole object
  pub chain : List Guid
  -- the SID that PRINCIPAL SELF stands for, PrincipalSelfSubst of 2.5.3.2
  pub principal_self : Option SidValue
  -- the token has restricting SIDs, so that there are two passes (2.5.2)
  pub is_restricted : Bool
  -- what the condition in an entry's application data is in the pass, for an entry of the kind (2.5.3.1.5)
  pub truth : Pass → AceKind → List ℕ → Truth

abbrev pub truth_or_unknown : Option Truth → Truth
truth_or_unknown None = Unknown
truth_or_unknown (Some truth) = truth

-- data that isn't a condition is neither true nor false
abbrev pub truth_of : FactsValue → Pass → AceKind → Option (List Token) → Truth
truth_of f pass kind None = Unknown
truth_of f pass kind (Some tokens) = truth_or_unknown (condition_truth f kind pass tokens)

-- what conditions come to: by facts, or unknown
abbrev pub truth_by : Conditions → Pass → AceKind → List ℕ → Truth
truth_by (Evaluated facts) pass kind bytes = truth_of facts.now pass kind (condition_read bytes)
truth_by known.Unknown pass kind bytes = Unknown

-- there are two passes in which they may come to different truths
abbrev pub restricted_by : Conditions → Bool
restricted_by (Evaluated facts) = is_restricted facts.now.token
restricted_by known.Unknown = false

abbrev pub context_of : Context → ContextValue
context_of c = record {
  chain = c.chain.now;
  principal_self = c.principal_self;
  is_restricted = restricted_by c.conditions;
  truth = λ pass kind bytes. truth_by c.conditions pass kind bytes;
}
