-- What an error leaves of a script's output.
use Rattle.std.proofs.Common.{ℕ, List, [], Option, Ok, inl, inr, refl}
use Rattle.sd_lines.specs.declared.error.RunError.{RunError}
use Rattle.sd_lines.specs.declared.error.RunError.TheVariants.{Read, TooLong, Write, Memory, Thread}
use Rattle.sd_lines.specs.Output.{LeavesOutput}
use Rattle.sd_script.specs.declared.script_options.ScriptOptions.{ScriptOptions}
use Rattle.sd_script.specs.declared.script_counts.ScriptCounts.{ScriptCounts}
use Rattle.sd_command_line.specs.Answer.{PrintsRun, is_strict}
use Rattle.sd_arguments.specs.CommandLine.{Ask, CommandLineValue, Each, Help, Runs, Script, Version}
use Rattle.sd_arguments.specs.Options.{AreScriptOptions, OptionsValue}
use Rattle.sd_command_line.specs.Output.{IsNoWriteError, LeavesAfter, MayLeaveNothing}
use Rattle.sd_command_line.specs.Scripts.{script_outcome}
use Rattle.sd_arguments.specs.declared.command_line.ScriptRun.{ScriptRun}
use Rattle.sd_arguments.specs.declared.command_line.ScriptRun.TheVariants.{AtOnce, Audit, LineByLine}

-- it leaves it of the answer to the line
pub output_leaves : (run : ScriptRun) (options : OptionsValue) (run_options : ScriptOptions) → AreScriptOptions options run_options
    → ((error : RunError) → IsNoWriteError error → MayLeaveNothing (Runs options (Script run)) error)
    → (input left old new : Option (List ℕ)) (error : RunError)
    → LeavesOutput (λ text printed. (counts : ScriptCounts) × PrintsRun run run_options text printed counts) input old new error
    → LeavesAfter (Runs options (Script run)) input left old new error
output_leaves run options run_options said may input left old new Read leaves = inl (may Read tt, leaves)
output_leaves run options run_options said may input left old new TooLong leaves = inl (may TooLong tt, leaves)
output_leaves run options run_options said may input left old new Write part =
    let counts = part.output.2.0 in inr (inl (
      refl,
      record {
        answer = record { printed = part.printed; told = []; outcome = script_outcome (is_strict options) counts };
        answers = (Ok run_options, said, (counts, (part.output.0, part.output.1, part.output.2.1), inr refl, refl));
        beginning = part.beginning;
      },
    ))
output_leaves run options run_options said may input left old new Memory leaves = inl (may Memory tt, leaves)
output_leaves run options run_options said may input left old new Thread leaves = inl (may Thread tt, leaves)

-- want of memory may leave nothing of any line
pub memory_may : (line : CommandLineValue) → MayLeaveNothing line Memory
memory_may (Help command) = tt
memory_may Version = tt
memory_may (Runs options (Ask text request)) = tt
memory_may (Runs options (Each given request)) = refl
memory_may (Runs options (Script AtOnce)) = tt
memory_may (Runs options (Script (LineByLine has_ids))) = refl
memory_may (Runs options (Script (Audit workers))) = tt
