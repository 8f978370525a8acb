-- A descriptor with a plain part is that part.
use Rattle.std.proofs.Common.{◌≡◌, ℕ, ◌+◌, ◌<◌, ◌≤◌, ◌∷◌, [], List, Bool, true, false, ◌&&◌, ◌||◌, length, ◌⊎◌, Option, Some, None, Ok, Err, Result, ap, arith, refl, ◌∙◌, inl, inr, map}
use Rattle.std.specs.Prelude.{if◌then◌else◌, is_some}
use Rattle.std.proofs.lemmas.Bool.{le-ltb, lt-ltb}
use Rattle.std.specs.List.{filter_map, list_any, position_or_len}
use Rattle.std.specs.Result.{result_map_both}
use Rattle.std.proofs.lemmas.Option.{slice_get_cases}
use Rattle.sd_acl.specs.Ace.{acl_size_of}
use Rattle.sd_acl.specs.Dacl.{Dacl}
use Rattle.sd_acl.specs.declared.ace.Ace.{Ace}
use Rattle.sd_acl.specs.declared.ace.AceKind.{AceKind}
use Rattle.sd_acl.specs.declared.descriptor.DaclOf.TheVariants.{Absent, Null, List as Entries}
use Rattle.sd_sid.specs.Sid.{SidValue, same_sid}
use Rattle.sd_whole.proofs.PlainForms.{all_listed, forms_fit, plain_listed}
use Rattle.sd_whole.specs.Entry.{whole_acl_size}
use Rattle.sd_whole.specs.Kind.{plain_kind}
use Rattle.sd_whole.specs.Plain.{first_odd, is_odd, plain_ace, plain_acl, plain_as, plain_form, plain_list, with_dacl}
use Rattle.sd_whole.specs.Reading.{WholeAcl}
use Rattle.sd_whole.specs.Whole.{IsWholeAcl}
use Rattle.sd_whole.specs.declared.ace.TypedAce.{TypedAce}
use Rattle.sd_whole.specs.declared.ace.WholeAce.{WholeAce}
use Rattle.sd_whole.specs.declared.ace.WholeAce.TheVariants.{Plain, Typed, Opaque}
use Rattle.sd_whole.specs.declared.descriptor.WholeDescriptor.{WholeDescriptor}
use Rattle.sd_whole.specs.declared.plain.OddEntry.{OddEntry}
use Rattle.sd_acl.specs.Descriptor.{DescriptorValue}
use Rattle.sd_specialize.specs.Context.{ContextValue}
use Rattle.sd_specialize.specs.Entry.{entry_for, plain_for, principal_self, sid_or, typed_for}
use Rattle.sd_specialize.specs.Laws.{PlainStaysPlain, has_self, is_for_self}
use Rattle.sd_specialize.specs.Specialize.{entries_for, specialized, specialized_acl, specialized_list, ◌>>=◌}

-- ---- an entry

themselves : (named : Option SidValue) (test : Bool) (s : SidValue) → (is_some named && test) ≡ false → (if test then sid_or named s else s) ≡ s
themselves None true s nobody = refl
themselves (Some sid) true s nobody = absurd cc
themselves named false s nobody = refl

plainly : (c : ContextValue) (kind : AceKind) (flags mask : ℕ) (s : SidValue) → (is_some c.principal_self && same_sid s principal_self) ≡ false
    → plain_for c kind flags mask s ≡ plain_ace kind flags mask s
plainly c kind flags mask s nobody = ap (plain_ace kind flags mask) (themselves c.principal_self (same_sid s principal_self) s nobody)

typed_plainly : (c : ContextValue) (k : Option AceKind) (e : TypedAce) (p : Ace) → (is_some c.principal_self && same_sid e.sid principal_self) ≡ false
    → plain_as k e ≡ Some p → typed_for k c e ≡ Ok p
typed_plainly c None e p nobody h = absurd cc
typed_plainly c (Some kind) e p nobody h =
    let same : plain_ace kind e.flags.0 e.mask e.sid ≡ p = cc in
    ap Ok (plainly c kind e.flags.0 e.mask e.sid nobody ∙ same)

entry_plainly : (c : ContextValue) (e : WholeAce) (p : Ace) → (is_some c.principal_self && is_for_self e) ≡ false → plain_form e ≡ Some p
    → entry_for c e ≡ Ok p
entry_plainly c (Plain e) p nobody h =
    let same : plain_ace e.kind e.flags.0 e.mask e.sid ≡ p = cc in
    ap Ok (plainly c e.kind e.flags.0 e.mask e.sid nobody ∙ same)
entry_plainly c (Typed e) p nobody h = typed_plainly c (plain_kind e.kind) e p nobody h
entry_plainly c (Opaque e) p nobody h = absurd cc

-- ---- a list

-- every entry has a plain form
pub record AllPlain (es : List WholeAce) : Type 0 where
  pub forms : List Ace
  pub are : map plain_form es ≡ map (λ e. Some e) forms

-- what is for nobody in a list is for nobody in its first entry and in the others
none_here : (named here later : Bool) → (named && (here || later)) ≡ false → (named && here) ≡ false
none_here named here later h = grind (arith, h)

none_later : (named here later : Bool) → (named && (here || later)) ≡ false → (named && later) ≡ false
none_later named here later h = grind (arith, h)

entries_plainly : (c : ContextValue) (n : ℕ) (es : List WholeAce) (ps : List Ace) → (is_some c.principal_self && list_any is_for_self es) ≡ false
    → map plain_form es ≡ map (λ e. Some e) ps → entries_for c n es ≡ Ok ps
entries_plainly c n [] [] nobody h = refl
entries_plainly c n [] (p ∷ ps) nobody h = absurd cc
entries_plainly c n (e ∷ es) [] nobody h = absurd cc
entries_plainly c n (e ∷ es) (p ∷ ps) nobody h =
    let one = entry_plainly c e p (none_here (is_some c.principal_self) (is_for_self e) (list_any is_for_self es) nobody) cc in
    let others = entries_plainly c (n + 1) es ps (none_later (is_some c.principal_self) (is_for_self e) (list_any is_for_self es) nobody) cc in
    rw (one, others) refl

-- an entry without a plain form is found, or each has one
form_or_odd : (e : WholeAce) (o : Option Ace) → plain_form e ≡ o → (is_odd e ≡ true) ⊎ ((p : Ace) × (plain_form e ≡ Some p))
form_or_odd e None h = inl (rw h refl)
form_or_odd e (Some p) h = inr (p, h)

odd_or_plain : (es : List WholeAce) → (position_or_len is_odd es < length es) ⊎ AllPlain es
odd_or_plain [] = inr (record { forms = []; are = refl })
odd_or_plain (e ∷ es) = elim (form_or_odd e (plain_form e) refl) [
  | inl odd ↦ inl (rw odd (omega arith))
  | inr form ↦ elim (odd_or_plain es) [
    | inl later ↦ inl (rw form.1 (omega arith))
    | inr all ↦ inr (record { forms = form.0 ∷ all.forms; are = cc (form.1, all.are) })
  ]
]

-- a list with an entry that has no plain form is refused
odd_is_refused : (es : List WholeAce) (ps : List Ace) → position_or_len is_odd es < length es → plain_list es ≡ Ok ps → ⊥
odd_is_refused es ps low h =
    elim (slice_get_cases es (position_or_len is_odd es)).1 [
      | inl there ↦ absurd (let no_list = rw (lt-ltb (position_or_len is_odd es) (length es) low, there.2) at h in cc)
      | inr past ↦ absurd (omega arith)
    ]

-- what is listed is no larger than the whole list
listed_fits : (es : List WholeAce) (ps : List Ace) (odd : Option OddEntry) → first_odd es ≡ odd → plain_list es ≡ Ok ps
    → acl_size_of ps ≤ whole_acl_size es
listed_fits es ps None none h =
    let forms : filter_map plain_form es ≡ ps = cc (all_listed es none) in
    rw forms at (forms_fit es)
listed_fits es ps (Some odd) is h = absurd (let refused = rw is at h in cc)

list_plainly : (c : ContextValue) (es : List WholeAce) (ps : List Ace) → (is_some c.principal_self && list_any is_for_self es) ≡ false → whole_acl_size es ≤ 65535
    → plain_list es ≡ Ok ps → specialized_list c es ≡ Ok ps
list_plainly c es ps nobody small h = elim (odd_or_plain es) [
  | inl odd ↦ absurd (odd_is_refused es ps odd h)
  | inr all ↦
      let same : all.forms ≡ ps = cc (plain_listed es all.forms all.are) in
      let entries = entries_plainly c 1 es ps nobody (rw same at all.are) in
      let fit = listed_fits es ps (first_odd es) refl h in
      rw (entries, le-ltb 65535 (acl_size_of ps) (omega arith)) refl
]

of_list : (c : ContextValue) (es : List WholeAce) (found : Result (List Ace) OddEntry) (plain : Dacl) → (is_some c.principal_self && list_any is_for_self es) ≡ false
    → whole_acl_size es ≤ 65535 → plain_list es ≡ found → result_map_both Entries (λ odd. odd) found ≡ Ok plain
    → (specialized_list c es >>= λ list. Ok (Entries list)) ≡ Ok plain
of_list c es (Ok ps) plain nobody small is h = rw (list_plainly c es ps nobody small is) cc
of_list c es (Err odd) plain nobody small is h = absurd cc

acl_plainly : (c : ContextValue) (acl : WholeAcl) (plain : Dacl) → (is_some c.principal_self && has_self acl) ≡ false → IsWholeAcl acl
    → plain_acl acl ≡ Ok plain → specialized_acl c acl ≡ Ok plain
acl_plainly c Absent plain nobody is h = cc
acl_plainly c Null plain nobody is h = cc
acl_plainly c (Entries list) plain nobody is h = of_list c list.entries (plain_list list.entries) plain nobody is.fit refl h

of_acl : (c : ContextValue) (d : WholeDescriptor) (found : Result Dacl OddEntry) (plain : DescriptorValue) → (is_some c.principal_self && has_self d.dacl) ≡ false
    → IsWholeAcl d.dacl → plain_acl d.dacl ≡ found → result_map_both (with_dacl d) (λ odd. odd) found ≡ Ok plain
    → specialized c d ≡ Ok plain
of_acl c d (Ok dacl) plain nobody whole is h = rw (acl_plainly c d.dacl dacl nobody whole is) cc
of_acl c d (Err odd) plain nobody whole is h = absurd cc

pub plain_stays_plain : PlainStaysPlain
plain_stays_plain c d plain is nobody h = of_acl c d (plain_acl d.dacl) plain nobody is.dacl refl h
