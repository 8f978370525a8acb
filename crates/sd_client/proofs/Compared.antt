-- What the values of claims compare as.
use Rattle.std.proofs.Common.{Ok, Some, [], ap, append-nil, codes, false, length, refl, true, ◌==◌, ◌≡◌}
use Rattle.std.proofs.lemmas.Bool.{eq-eqb}
use Rattle.sd_sid.proofs.SidLaws.{sids_come_back}
use Rattle.sd_sid.specs.Sid.{IsSid, SidValue}
use Rattle.sd_sid.specs.SidBytes.{bytes_of_sid, sid_reading}
use Rattle.sd_text.specs.Grammar.{begins}
use Rattle.sd_condition.specs.declared.value.Value.TheVariants.{Integer, Text, Octets, Sid}
use Rattle.sd_client.specs.Laws.{ClaimsCompareAsWritten}
use Rattle.sd_evaluation.specs.Value.{sid_datum, sid_of}

-- the binary form of a SID is no text of one
no_text : (s : SidValue) → begins (bytes_of_sid s) (codes "S-1-") ≡ false
unfolding bytes_of_sid
no_text s = refl

all_read : (s : SidValue) → IsSid s → sid_reading (bytes_of_sid s) ≡ Ok (s, length (bytes_of_sid s))
all_read s is = rw append-nil at (sids_come_back s [] is)

binary_sid : (s : SidValue) → IsSid s → sid_of (bytes_of_sid s) ≡ Some s
unfolding sid_of
binary_sid s is =
    let whole : (length (bytes_of_sid s) == length (bytes_of_sid s)) ≡ true = eq-eqb (length (bytes_of_sid s)) (length (bytes_of_sid s)) refl in
    rw (no_text s, all_read s is, whole)

pub claims_compare_as_written : ClaimsCompareAsWritten
claims_compare_as_written (Integer integer) is = refl
claims_compare_as_written (Text text) is = refl
claims_compare_as_written (Octets octets) is = refl
claims_compare_as_written (Sid sid) is = ap sid_datum (binary_sid sid is)
