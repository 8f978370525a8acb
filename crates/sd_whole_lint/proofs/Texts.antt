-- What a list of one entry is printed as.
use Rattle.std.proofs.Common.{List, [], ◌∷◌, ◌++◌, Ok, Err, Result, Some, None, codes, refl, ap, append-nil, arith, false, nat_lt, subst, sym, ℕ, ◌≡◌, ◌≤◌, ◌∙◌}
use Rattle.sd_acl.specs.declared.descriptor.DaclOf.TheVariants.{Absent, List as Entries}
use Rattle.sd_text.specs.declared.right_names.RightNames.{RightNames}
use Rattle.sd_whole.specs.Entry.{whole_acl_size}
use Rattle.sd_whole.specs.Values.{WholeListValue}
use Rattle.sd_whole.specs.declared.ace.WholeAce.{WholeAce}
use Rattle.sd_whole.specs.declared.descriptor.WholeDescriptor.{WholeDescriptor}
use Rattle.sd_whole.specs.declared.list.ListRevision.TheVariants.{Standard}
use Rattle.sd_whole_text.specs.Acl.{keywords_text}
use Rattle.sd_whole_text.specs.Descriptor.{sections_text, whole_text}
use Rattle.sd_whole_text.specs.Entry.{entry_text}
use Rattle.sd_whole_text.specs.NoText.{entry_test, whole_test, ◌>>◌}
use Rattle.sd_whole_text.specs.declared.no_text.AclKind.TheVariants.{Dacl}
use Rattle.sd_whole_text.specs.declared.no_text.NoText.{NoText}
use Rattle.sd_whole_lint.specs.EntryText.{text_if, text_of}

abbrev pub alone : WholeAce → WholeDescriptor
alone e = record {
  resource_manager = 0;
  control = 0;
  owner = None;
  group = None;
  sacl = Absent;
  dacl = Entries (record { revision = Standard; entries = e ∷ [] });
}

-- what is printed, by what the test of the entry says
abbrev printed_if : Result (Unit {0}) NoText → List ℕ → Result (List ℕ) NoText
printed_if test text = ((test >> Ok tt) >> Ok tt) >> Ok (codes "D:" ++ text)

found : (test : Result (Unit {0}) NoText) (text printed : List ℕ) → printed_if test text ≡ Ok printed
    → (text_if test text ≡ Some text) × (printed ≡ codes "D:" ++ text)
found (Ok tt) text printed is = (refl, cc)
found (Err why) text printed is = absurd cc

none_found : (test : Result (Unit {0}) NoText) (text : List ℕ) (why : NoText) → printed_if test text ≡ Err why
    → text_if test text ≡ None
none_found (Ok tt) text why is = absurd cc
none_found (Err other) text why is = refl

module _ (names : RightNames) (e : WholeAce) where
  tested : whole_test (alone e) ≡ ((entry_test Dacl 1 e >> Ok tt) >> Ok tt)
  unfolding whole_test
  tested = refl

  written : sections_text names (alone e) ≡ codes "D:" ++ entry_text names e
  unfolding sections_text keywords_text
  written = ap (λ rest. codes "D:" ++ rest) (append-nil _ ∙ append-nil _)

  printed : whole_text names (alone e) ≡ printed_if (entry_test Dacl 1 e) (entry_text names e)
  printed = rw (tested, written) refl

  pub text_is : (text : List ℕ) → whole_text names (alone e) ≡ Ok text
      → (text_if (entry_test Dacl 1 e) (entry_text names e) ≡ Some (entry_text names e))
      × (text ≡ codes "D:" ++ entry_text names e)
  text_is text is = found (entry_test Dacl 1 e) (entry_text names e) text (sym printed ∙ is)

  pub no_text_is : (why : NoText) → whole_text names (alone e) ≡ Err why
      → text_if (entry_test Dacl 1 e) (entry_text names e) ≡ None
  no_text_is why is = none_found (entry_test Dacl 1 e) (entry_text names e) why (sym printed ∙ is)

-- a descriptor with this list alone
abbrev with_list : WholeListValue → WholeDescriptor
with_list list = record { resource_manager = 0; control = 0; owner = None; group = None; sacl = Absent; dacl = Entries list }

module _ (names : RightNames) (e copy : WholeAce) (items : List WholeAce) (list : WholeListValue) where
  all_is : copy ≡ e → items ≡ copy ∷ [] → items ≡ e ∷ []
  all_is same one = one ∙ ap (λ x. x ∷ []) same

  list_is : copy ≡ e → items ≡ copy ∷ [] → list ≡ record { revision = Standard; entries = items }
      → with_list list ≡ alone e
  list_is same one is = ap with_list (is ∙ ap (λ es. record { revision = Standard; entries = es }) (all_is same one))

  fits_is : copy ≡ e → items ≡ copy ∷ [] → whole_acl_size items ≤ 65535 → nat_lt 65535 (whole_acl_size (e ∷ [])) ≡ false
  fits_is same one fits =
      let low : whole_acl_size (e ∷ []) ≤ 65535 = subst (λ es. whole_acl_size es ≤ 65535) (all_is same one) fits in
      grind (arith, low)

  -- what is printed behind the head is its text
  pub given : (shown printed : List ℕ) → copy ≡ e → items ≡ copy ∷ []
      → list ≡ record { revision = Standard; entries = items } → whole_acl_size items ≤ 65535
      → whole_text names (with_list list) ≡ Ok printed → ((rest : List ℕ) → printed ≡ codes "D:" ++ rest → shown ≡ rest)
      → Some shown ≡ text_of names e
  given shown printed same one is fits says behind =
      let found = text_is names e printed (subst (λ d. whole_text names d ≡ Ok printed) (list_is same one is) says) in
      rw (fits_is same one fits, found.0) (ap Some (behind (entry_text names e) found.1))

  -- what has no text has none
  pub none_given : (why : NoText) → copy ≡ e → items ≡ copy ∷ [] → list ≡ record { revision = Standard; entries = items }
      → whole_acl_size items ≤ 65535 → whole_text names (with_list list) ≡ Err why → None ≡ text_of names e
  none_given why same one is fits says =
      let none = no_text_is names e why (subst (λ d. whole_text names d ≡ Err why) (list_is same one is) says) in
      rw (fits_is same one fits, none) refl
