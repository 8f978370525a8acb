-- What stands in the place of a field.
use Rattle.std.proofs.Common.{Bool, Err, List, Option, Result, [], false, get_or, inl, inr, length, refl, subst, sym, true, ℕ, ◌+◌, ◌++◌, ◌<◌, ◌≤◌, ◌==◌, ◌∙◌, ◌∷◌, ◌≡◌, ◌⊎◌}
use Rattle.std.proofs.lemmas.Bool.{true≢false}
use Rattle.std.proofs.lemmas.Option.{slice_get-get_or, slice_get_past, slice_get_read}
use Rattle.std.specs.Borrow.{Bor}
use Rattle.std.specs.List.{HoldsAt}
use Rattle.std.specs.Option.{MatchOption, option_copied}
use Rattle.std.specs.Prelude.{IfSome, None, Some, slice_get}
use Rattle.std.specs.Str.{IsUtf8}
use Rattle.sd_sid.specs.Sid.{SidValue}
use Rattle.sd_text.specs.Canon.{full_canon}
use Rattle.sd_text.specs.declared.alias.Aliases.{Aliases}
use Rattle.sd_accounts.specs.Names.{NamesNone, NamesOne, NamesTwo}
use Rattle.sd_accounts.specs.Row.{AccountRow}
use Rattle.sd_accounts.specs.declared.names.NameError.{NameError}
use Rattle.sd_accounts.specs.declared.names.NameError.TheVariants.{Unknown, Ambiguous}
use Rattle.sd_named.specs.Sddl.{IsField, IsNamedSid, IsNamedSddl, IsRead, in_sid, outside, step}
use Rattle.sd_named.specs.declared.sddl.Place.{Place}

-- who names nobody, or two, doesn't name one
pub not_one : (rows : List AccountRow) (text : List ℕ) (named : Result SidValue NameError) (error : NameError) → named ≡ Err error
    → (named ≡ Err Unknown → NamesNone rows text) → (named ≡ Err Ambiguous → NamesTwo rows text) → (sid : SidValue) → NamesOne rows text sid → ⊥
not_one rows text named Unknown is unknown ambiguous sid one = unknown is sid one.0
not_one rows text named Ambiguous is unknown ambiguous sid one =
    let two = ambiguous is in two.4 (one.1 two.0 two.2 ∙ sym (one.1 two.1 two.3))

-- what `get` gives
pub next_at : (xs : List ℕ) (i : ℕ) (o : Option (Bor ℕ)) → IfSome o (λ x. x.now ≡ get_or xs i x.now)
    → MatchOption o (length xs ≤ i) (λ x. (i < length xs) × HoldsAt (λ y. x.now ≡ y) xs i) → option_copied o ≡ slice_get xs i
next_at xs i None held past = sym (slice_get_past xs i past)
next_at xs i (Some x) held (low, at) = sym (slice_get_read xs (length xs) i x.now refl low held)

module _ (rows : List AccountRow) (known : Aliases) where
  -- a field that is no name stands
  pub plain_field : (field text shown : List ℕ) → (text ≡ field) × IsUtf8 field → ((sid : SidValue) → IsNamedSid rows known text sid → ⊥) → shown ≡ field
      → IsField rows known field shown
  plain_field [] text shown is none same = same
  plain_field (b ∷ bs) text shown is none same =
      inr (λ sid named. none sid (subst (λ t. IsNamedSid rows known t sid) (sym is.0) named.1), same)

  -- a name gives way to its SID
  pub named_field : (field text shown : List ℕ) (sid : SidValue) (empty : Bool) → empty ≡ (length field == 0) → empty ≡ false → (text ≡ field) × IsUtf8 field
      → IsNamedSid rows known text sid → shown ≡ full_canon sid → IsField rows known field shown
  named_field [] text shown sid empty is some read named same = absurd (true≢false (sym is ∙ some))
  named_field (b ∷ bs) text shown sid empty is some read named same =
      inl (sid, (read.1, subst (λ t. IsNamedSid rows known t sid) read.0 named), same)

  -- a byte more is read: one of a SID
  pub sid_more : (text : List ℕ) (i d : ℕ) (place : Place) (next : Option ℕ) (to : Place × Bool) (field before new same : List ℕ) → i < length text
      → IsRead rows known text i place field before → to ≡ step place (get_or text i d) next → next ≡ slice_get text (i + 1) → to.1 ≡ true
      → new ≡ field ++ get_or text i d ∷ [] → same ≡ before → IsRead rows known text (i + 1) to.0 new same
  sid_more text i d place next (after, of_sid) field before new same low read steps is of more kept =
      rw (more, kept) (in_sid i place after field before (get_or text i d) read (slice_get-get_or text i d low)
      (sym (subst (λ n. (after, of_sid) ≡ step place (get_or text i d) n) is steps) ∙ rw of refl))

  -- or another one
  pub other_more : (text : List ℕ) (i d : ℕ) (place : Place) (next : Option ℕ) (to : Place × Bool) (field before shown mid new empty : List ℕ) → i < length text
      → IsRead rows known text i place field before → to ≡ step place (get_or text i d) next → next ≡ slice_get text (i + 1) → to.1 ≡ false
      → IsField rows known field shown → mid ≡ before ++ shown → new ≡ mid ++ get_or text i d ∷ [] → empty ≡ []
      → IsRead rows known text (i + 1) to.0 empty new
  other_more text i d place next (after, of_sid) field before shown mid new empty low read steps is of field_is first second none =
      rw (none, second, first) (outside i place after field shown before (get_or text i d) read (slice_get-get_or text i d low)
      (sym (subst (λ n. (after, of_sid) ≡ step place (get_or text i d) n) is steps) ∙ rw of refl) field_is)

  -- all bytes are read
  pub all_read : (text bytes whole named : List ℕ) (i : ℕ) (place : Place) (field before shown : List ℕ) → bytes ≡ text → i ≡ length bytes
      → IsRead rows known bytes i place field before → IsField rows known field shown → whole ≡ before ++ shown
      → (named ≡ whole) ⊎ ((IsUtf8 whole → ⊥) × (named ≡ text)) → IsNamedSddl rows known text named
  all_read text bytes whole named i place field before shown same end read is more given = record {
    place = place;
    field = field;
    before = before;
    shown = shown;
    is_read = subst (λ t. IsRead rows known t (length t) place field before) same (subst (λ n. IsRead rows known bytes n place field before) end read);
    is_field = is;
    is_named = subst (λ w. (named ≡ w) ⊎ ((IsUtf8 w → ⊥) × (named ≡ text))) more given;
  }
