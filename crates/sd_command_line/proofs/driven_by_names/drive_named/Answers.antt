-- The answer by people, or a fault of a name, is what stands.
use Rattle.std.proofs.Common.{◌≡◌, ◌≢◌, ◌≤◌, ◌∙◌, ◌⊎◌, ℕ, List, Option, Some, Result, Ok, Err, IfOk, arith, ap, inl, inr, refl, string_bytes, subst, sym}
use Rattle.std.specs.Borrow.{Bor}
use Rattle.sd_lines.specs.Streams.{AppendsBeginning}
use Rattle.sd_lines.specs.Watched.{inner_of}
use Rattle.sd_lines.specs.declared.error.RunError.{RunError}
use Rattle.sd_accounts.specs.Accounts.{rows_of}
use Rattle.sd_accounts.specs.Row.{AccountRow}
use Rattle.sd_named.specs.File.{AreAccounts}
use Rattle.sd_named.specs.declared.arguments.NamedError.{NamedError}
use Rattle.sd_named_questions.specs.declared.answer.NamedRunError.{NamedRunError}
use Rattle.sd_named_questions.specs.declared.answer.NamedRunError.TheVariants.{Named, Run}
use Rattle.sd_commands.specs.Answer.{outcome_status}
use Rattle.sd_arguments.specs.CommandLine.{CommandLineValue, command_line_of, reading}
use Rattle.sd_questions.specs.declared.each.Ended.{Ended}
use Rattle.sd_command_line.specs.ByName.{AppendsByName, AppendsFault, EndsByName, asked, faulty}
use Rattle.sd_command_line.specs.Names.{without_accounts}
use Rattle.sd_command_line.specs.Output.{tells_faults}
use Rattle.sd_command_line.proofs.driven_by_names.drive_named.Goals as goal

-- what stands and is told, where a line that was carried out ended with this status, which isn't that of a failure
ends : {W E : Type 0} (rows : List AccountRow) (line : CommandLineValue) (text : List ℕ) (words : List (Bor (List ℕ))) (input old : Option (List ℕ))
    (contents : W → Option (List ℕ)) (said : E → Option (List ℕ)) (now after : W) (errors before : E) (status : ℕ) (ran : Result Ended NamedRunError)
    → AreAccounts text rows → reading (without_accounts words) ≡ Some line
    → IfOk ran (λ ended. AppendsByName rows line input old (contents now) (string_bytes ended.told) (outcome_status (tells_faults line) ended.outcome))
    → ((error : NamedError) → ran ≡ Err (Named error) → contents now ≡ old)
    → IfOk ran (λ ended. (status ≡ outcome_status (tells_faults line) ended.outcome) × (after ≡ now)
    × AppendsBeginning (said before) (said errors) (string_bytes ended.told))
    → ((error : NamedError) → ran ≡ Err (Named error) → status ≢ 3 → AppendsFault (contents now) (contents after) status
    × ((told : List ℕ) × AppendsBeginning (said before) (said errors) told))
    → ((error : RunError) → ran ≡ Err (Run error) → status ≡ 3) → status ≢ 3
    → (told : List ℕ) × EndsByName text words input old (contents after) told status × AppendsBeginning (said before) (said errors) told
ends rows line text words input old contents said now after errors before status (Ok ended) accounts reads by_name same ok named failed well = (
  string_bytes ended.told,
  asked rows line accounts reads
      (subst (λ n. AppendsByName rows line input old (contents after) (string_bytes ended.told) n) (sym ok.0)
      (subst (λ w. AppendsByName rows line input old (contents w) (string_bytes ended.told) (outcome_status (tells_faults line) ended.outcome)) (sym ok.1)
      by_name)),
  ok.2,
)
ends rows line text words input old contents said now after errors before status (Err (Named error)) accounts reads by_name same ok named failed well =
    let fault = named error refl well in
    (fault.1.0, faulty (subst (λ bytes. AppendsFault bytes (contents after) status) (same error refl) fault.0), fault.1.1)
ends rows line text words input old contents said now after errors before status (Err (Run error)) accounts reads by_name same ok named failed well =
    absurd (well (failed error refl))

pub returns-in-Some-clause-answered : goal.returns-in-Some-clause-answered
returns-in-Some-clause-answered g c = λ low.
    let reads = subst (λ words. reading words ≡ Some (command_line_of c.in-Ok-read_command_line.line))
    (c.deref.ensures.value ∙ c.in-Ok-without_accounts.ensures) (sym c.in-Ok-read_command_line.ensures) in
    ends (rows_of c.in-Ok.accounts) (command_line_of c.in-Ok-read_command_line.line) c.args.text.now c.args.words.now
    (g.R.Read.remaining (inner_of c.args.reader.now)) (g.W.Write.contents (inner_of c.args.writer.now))
    (λ w. g.W.Write.contents (inner_of w)) (λ e. g.E.Write.contents (inner_of e)) c.perform_named.new.writer c.end_named.new.writer
    c.end_named.new.errors c.args.errors.now c.end_named.result c.in-Some.ran c.in-Ok.ensures reads c.in-Some.ensures.ok
    (λ error is. ap (λ w. g.W.Write.contents (inner_of w)) (c.in-Some.ensures.unwritten error is))
    c.end_named.ensures.ok c.end_named.ensures.named c.end_named.ensures.failed (λ three. omega arith)

pub returns-in-Some-clause-faulty : goal.returns-in-Some-clause-faulty
returns-in-Some-clause-faulty g c = λ four.
    let reads = subst (λ words. reading words ≡ Some (command_line_of c.in-Ok-read_command_line.line))
    (c.deref.ensures.value ∙ c.in-Ok-without_accounts.ensures) (sym c.in-Ok-read_command_line.ensures) in
    ends (rows_of c.in-Ok.accounts) (command_line_of c.in-Ok-read_command_line.line) c.args.text.now c.args.words.now
    (g.R.Read.remaining (inner_of c.args.reader.now)) (g.W.Write.contents (inner_of c.args.writer.now))
    (λ w. g.W.Write.contents (inner_of w)) (λ e. g.E.Write.contents (inner_of e)) c.perform_named.new.writer c.end_named.new.writer
    c.end_named.new.errors c.args.errors.now c.end_named.result c.in-Some.ran c.in-Ok.ensures reads c.in-Some.ensures.ok
    (λ error is. ap (λ w. g.W.Write.contents (inner_of w)) (c.in-Some.ensures.unwritten error is))
    c.end_named.ensures.ok c.end_named.ensures.named c.end_named.ensures.failed (λ three. omega arith)
