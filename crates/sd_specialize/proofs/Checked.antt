-- The entries of a list so far, and what is left.
use Rattle.std.proofs.Common.{◌≡◌, ℕ, ◌+◌, ◌<◌, ◌≤◌, ◌++◌, ◌∷◌, [], List, Option, Some, Ok, Err, ap, arith, drop, get_or, length, refl, sym, ◌∙◌}
use Rattle.std.proofs.lemmas.Bool.{le-ltb, lt-ltb}
use Rattle.std.proofs.lemmas.List.{append-nil, drop_all, drop_more}
use Rattle.std.proofs.lemmas.List.Sums.{sum_by-append}
use Rattle.sd_acl.specs.Ace.{ace_size, acl_size_of}
use Rattle.sd_acl.specs.declared.ace.Ace.{Ace}
use Rattle.sd_whole.specs.declared.ace.WholeAce.{WholeAce}
use Rattle.sd_check.specs.Check.{verdict}
use Rattle.sd_check.specs.Token.{TokenValue}
use Rattle.sd_sid.specs.Mapping.{MappingValue}
use Rattle.sd_sid.specs.Sid.{SidValue}
use Rattle.sd_specialize.specs.Context.{ContextValue}
use Rattle.sd_specialize.specs.Entry.{entry_for}
use Rattle.sd_specialize.specs.Specialize.{Fails, entries_for, fitting, numbered, specialized_list, ◌>>=◌}
use Rattle.sd_specialize.specs.Verdict.{list_verdict}
use Rattle.sd_specialize.specs.declared.fault.SpecializeError.{SpecializeError}
use Rattle.sd_specialize.specs.declared.fault.SpecializeError.TheVariants as errors
use Rattle.sd_specialize.specs.declared.fault.SpecializeFault.{SpecializeFault}
use Rattle.sd_specialize.specs.declared.fault.SpecializeFault.TheVariants.{TooLarge}

-- one more entry takes its size more
pub grown_size : (seen : List Ace) (e : Ace) (size more : ℕ) → size ≡ acl_size_of seen → more ≡ ace_size e → size + more ≡ acl_size_of (seen ++ e ∷ [])
grown_size seen e size more is is_more = let sum = sum_by-append ace_size seen (e ∷ []) in omega (arith, is, is_more, sum)

module _ (c : ContextValue) (es : List WholeAce) where
  -- the entries so far became these, and the rest decides the outcome
  abbrev pub Became : ℕ → List Ace → Type 0
  Became i seen = entries_for c 1 es ≡ (entries_for c (i + 1) (drop i es) >>= λ others. Ok (seen ++ others))

  -- all of them became these
  became_all : (i : ℕ) (seen : List Ace) → length es ≤ i → Became i seen → entries_for c 1 es ≡ Ok seen
  became_all i seen all so_far =
      so_far ∙ ap (λ xs. entries_for c (i + 1) xs >>= λ others. Ok (seen ++ others)) (drop_all i es all) ∙ ap Ok (append-nil seen)

  pub fits : (i : ℕ) (seen : List Ace) (size : ℕ) → length es ≤ i → Became i seen → size ≡ acl_size_of seen → size ≤ 65535 → specialized_list c es ≡ Ok seen
  fits i seen size all so_far is small =
      ap (λ found. found >>= fitting) (became_all i seen all so_far)
      ∙ rw (le-ltb 65535 (acl_size_of seen) (omega (arith, is, small))) refl

  pub too_large : (i : ℕ) (seen : List Ace) (size : ℕ) → length es ≤ i → Became i seen → size ≡ acl_size_of seen → 65535 < size → specialized_list c es ≡ Err TooLarge
  too_large i seen size all so_far is large =
      ap (λ found. found >>= fitting) (became_all i seen all so_far)
      ∙ rw (lt-ltb 65535 (acl_size_of seen) (omega (arith, is, large))) refl

  -- the next one is refused
  pub refused : (i : ℕ) (seen : List Ace) (e : WholeAce) (fault : SpecializeFault) → i < length es → e ≡ get_or es i e
      → Became i seen → numbered (i + 1) (entry_for c e) ≡ Err fault → specialized_list c es ≡ Err fault
  refused i seen e fault low is so_far fails =
      let rest : drop i es ≡ e ∷ drop (i + 1) es = drop_more es i e low ∙ ap (λ x. x ∷ drop (i + 1) es) (sym is) in
      ap (λ found. found >>= fitting)
      (so_far ∙ ap (λ xs. entries_for c (i + 1) xs >>= λ others. Ok (seen ++ others)) rest
      ∙ ap (λ first. (first >>= λ p. (entries_for c ((i + 1) + 1) (drop (i + 1) es) >>= λ others. Ok (p ∷ others))) >>= λ others. Ok (seen ++ others)) fails)

  pub fails : (owner : Option SidValue) (g : MappingValue) (t : TokenValue) (r : ℕ) (i : ℕ) (seen : List Ace) (e : WholeAce) (error : SpecializeError)
      → i < length es → e ≡ get_or es i e → Became i seen → Fails error (numbered (i + 1) (entry_for c e)) → Fails error (list_verdict c owner es g t r)
  fails owner g t r i seen e errors.Memory low is so_far h = tt
  fails owner g t r i seen e (errors.Fault fault) low is so_far h =
      ap (λ found. found >>= λ plain. Ok (verdict owner (Some plain) g t r)) (refused i seen e fault low is so_far h)
