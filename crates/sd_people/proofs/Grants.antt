-- What is granted by one line more.
use Rattle.std.proofs.Common.{◌≡◌, ◌++◌, ◌∷◌, true, false, List, [], codes, subst, sym}
use Rattle.sd_sid.specs.Sid.{SidValue}
use Rattle.sd_line.specs.Line.{LineOf, PartOf, is_of}
use Rattle.sd_accounts.specs.Row.{AccountRow}
use Rattle.sd_people.specs.Lines.{Told, User, person}
use Rattle.sd_people.specs.Way.{AreGranted, IsWithWay, granted, holder, other}
use Rattle.sd_people.specs.declared.forms.TheConstants.{PERSON}

module _ (rows : List AccountRow) (starts : List SidValue) (user : User) (lines : List LineOf) (told : List Told) (line : LineOf) (are : AreGranted rows starts user lines told)
  where
    pub one_granted : (shown : LineOf) (part : PartOf) (new : List Told) → is_of (codes "granted") line ≡ true → IsWithWay rows starts (holder line) line shown
        → part ≡ person PERSON.now user → new ≡ told ++ (shown, part) ∷ [] → AreGranted rows starts user (lines ++ line ∷ []) new
    one_granted shown part new is way is_part more =
        subst (AreGranted rows starts user (lines ++ line ∷ [])) (sym more)
        (subst (λ p. AreGranted rows starts user (lines ++ line ∷ []) (told ++ (shown, p) ∷ [])) (sym is_part) (granted lines told line shown are is way))

    pub one_other : is_of (codes "granted") line ≡ false → AreGranted rows starts user (lines ++ line ∷ []) told
    one_other is = other lines told line are is
