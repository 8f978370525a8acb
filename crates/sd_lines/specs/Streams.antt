-- What is gone from a reader, or is in a writer, where its bytes are known.
use Rattle.std.specs.Prelude.{◌≡◌, ℕ, ◌<◌, ◌≤◌, Bool, true, false, List, ◌++◌, length, Option, Result, Err}
use Rattle.std.specs.Io.KnownBytes.{Appends, Consumes}
use Rattle.sd_lines.specs.declared.error.RunError.{RunError}
use Rattle.sd_lines.specs.declared.error.RunError.TheVariants.{Read, TooLong, Write, Memory}
use Rattle.sd_lines.specs.declared.input.TheConstants.{MAX_INPUT_BYTES}

-- the answer is that the reader failed
abbrev pub is_read_error : {T : Type 0} → Result T RunError → Bool
is_read_error (Err Read) = true
is_read_error answer = false

-- the answer is that the writer failed
abbrev pub is_write_error : {T : Type 0} → Result T RunError → Bool
is_write_error (Err Write) = true
is_write_error answer = false

-- how many bytes were read before each error. A reading never answers Write or Thread
abbrev pub FitsError : RunError → ℕ → Type 0
FitsError Read count = count ≤ MAX_INPUT_BYTES
FitsError TooLong count = MAX_INPUT_BYTES < count
FitsError Memory count = count ≤ MAX_INPUT_BYTES
FitsError error count = ⊥

-- known bytes lost a prefix, whose length fits the error
pub record ReadsPart (old new : Option (List ℕ)) (error : RunError) : Type 0 where
  pub part : List ℕ
  pub consumed : Consumes old new part
  pub fits : FitsError error (length part)

-- known bytes grow by a prefix of the text
pub record AppendsBeginning (old new : Option (List ℕ)) (text : List ℕ) : Type 0 where
  pub done : List ℕ
  pub rest : List ℕ
  pub parts : text ≡ done ++ rest
  pub appended : Appends old new done
