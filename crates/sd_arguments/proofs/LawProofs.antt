-- The proofs of the laws.
use Rattle.std.proofs.Common.{◌≡◌, ◌+◌, ℕ, List, [], ◌∷◌, ◌++◌, length, Bool, true, false, Option, Some, None, ap, codes, option_map, refl, arith}
use Rattle.std.proofs.lemmas.Bool.{le-leb}
use Rattle.std.proofs.lemmas.List.{length-append}
use Rattle.std.specs.Prelude.{if◌then◌else◌}
use Rattle.std.specs.Option.{option_and_then}
use Rattle.std.specs.Borrow.{Bor}
use Rattle.sd_usage.specs.Table.{command_named, option_named, takes_count, takes_option}
use Rattle.sd_usage.specs.declared.row.CommandName.{CommandName}
use Rattle.sd_usage.specs.declared.row.CommandName.TheVariants as names
use Rattle.sd_usage.specs.declared.row.DescriptorCommand.TheVariants as questions
use Rattle.sd_arguments.specs.CommandLine.{CallValue, InvocationValue, RequestValue, Ask, Runs, arguments_of_line, asked_by, first_call, request_by, text_request}
use Rattle.sd_arguments.specs.Laws.{shows, AsksTheCommand, HelpStandsAlone, DashesKeepTexts, OptionsKeepTexts, with_more}
use Rattle.sd_arguments.specs.Options.{OptionsValue}

-- ---- help stands alone

none_shown : (options : OptionsValue) (asked : Option InvocationValue)
    → shows (option_map (Runs options) asked) ≡ true → ⊥
none_shown options None h = cc
none_shown options (Some invocation) h = cc

not_shown : (read : Option CallValue)
    → shows (option_and_then (λ call. option_map (Runs call.options) (asked_by call)) read) ≡ true → ⊥
not_shown None h = cc
not_shown (Some call) h = none_shown call.options (asked_by call) h

pub help_stands_alone : HelpStandsAlone
help_stands_alone [] h = omega arith
help_stands_alone (name ∷ []) h = omega arith
help_stands_alone (name ∷ word ∷ []) h = omega arith
help_stands_alone (name ∷ word ∷ next ∷ []) h = omega arith
help_stands_alone (name ∷ word ∷ next ∷ other ∷ words) h =
    absurd (not_shown (first_call (word ∷ next ∷ other ∷ words)) h)

-- ---- texts after dashes

pub verdict_keeps_texts : DashesKeepTexts questions.Verdict (codes "verdict")
unfolding command_named option_named
verdict_keeps_texts name word dashes sddl user mask words is dash =
    rw (is, dash, le-leb 3 (length (sddl ∷ user ∷ mask ∷ words)) (omega arith)) refl

pub why_keeps_texts : DashesKeepTexts questions.Why (codes "why")
unfolding command_named option_named
why_keeps_texts name word dashes sddl user mask words is dash =
    rw (is, dash, le-leb 3 (length (sddl ∷ user ∷ mask ∷ words)) (omega arith)) refl

pub options_keep_texts : OptionsKeepTexts
unfolding command_named option_named takes_option
options_keep_texts name option domain sid word dashes sddl user mask words names in_domain why dash =
    rw (names, in_domain, why, why, dash, le-leb 3 (length (sddl ∷ user ∷ mask ∷ words)) (omega arith)) refl

-- ---- what is asked of a text

-- where a command takes so many arguments, and options may go before it
by_takes : (Invoked : RequestValue → InvocationValue) (more : List (Bor (List ℕ))) (fits takes goes : Bool)
    (text : List ℕ) (given request : RequestValue) → ((a b : RequestValue) → Invoked a ≡ Invoked b → a ≡ b)
    → option_and_then (λ asked. if goes then Some (Invoked asked) else None)
    (if fits then (if takes then Some given else None) else None) ≡ Some (Invoked request)
    → (if takes then (if goes then Some (Ask (Some text) (with_more more given)) else None) else None)
    ≡ Some (Ask (Some text) (with_more more request))
by_takes Invoked more true true true text given request one is =
    ap (λ asked. Some (Ask (Some text) (with_more more asked))) (one given request cc)
by_takes Invoked more true true false text given request one is = cc
by_takes Invoked more true false goes text given request one is = cc
by_takes Invoked more false takes goes text given request one is = cc

by_name : (Invoked : RequestValue → InvocationValue) (pairs : Bool) (name : CommandName) (call : CallValue)
    (text : Bor (List ℕ)) (more : List (Bor (List ℕ))) (request : RequestValue)
    → ((a b : RequestValue) → Invoked a ≡ Invoked b → a ≡ b)
    → text_request pairs Invoked name call ≡ Some (Invoked request)
    → (if takes_count call.command (arguments_of_line pairs + length call.arguments)
    then request_by name (record call { arguments = text ∷ (more ++ call.arguments) })
    (text ∷ (more ++ call.arguments))
    else None) ≡ Some (Ask (Some text.now) (with_more more request))
by_name Invoked pairs (names.Ask question) call text more request one is = by_takes Invoked more _ _ _ _ _ _ one is
by_name Invoked pairs names.Script call text more request one is = cc
by_name Invoked pairs names.Serve call text more request one is = cc
by_name Invoked pairs names.Audit call text more request one is = cc
by_name Invoked pairs names.Each call text more request one is = cc

pub asks_the_command : (Invoked : RequestValue → InvocationValue)
    → ((a b : RequestValue) → Invoked a ≡ Invoked b → a ≡ b) → AsksTheCommand Invoked
asks_the_command Invoked one pairs call text more request count is =
    let len : length (more ++ call.arguments) ≡ length more + length call.arguments =
    length-append more call.arguments in
    let taken : arguments_of_line pairs + length call.arguments ≡ length (text ∷ (more ++ call.arguments)) =
    omega arith in
    let asked = by_name Invoked pairs call.command.name call text more request one is in
    rw taken at asked
