-- Where there is a reading it is of what is asked, and there are no words.
use Rattle.std.proofs.Common.{ℕ, ◌≡◌, List, [], Option, Some, subst}
use Rattle.sd_commands.specs.declared.settings.Settings.{Settings}
use Rattle.sd_named.specs.declared.word.NamedWord.{NamedWord}
use Rattle.sd_people.specs.Reading.{IsReadingOf, IsReady}
use Rattle.sd_people.specs.declared.reading.Reading.{Reading}

pub ready_read : (settings : Settings) (words : List NamedWord) (text mask : List ℕ) (found : Option Reading) (reading : Reading) → found ≡ Some reading
    → IsReady settings words text mask found → (words ≡ []) × IsReadingOf settings text mask reading
ready_read settings words text mask found reading is ready = subst (λ (one : Option Reading). IsReady settings words text mask one) is ready
