-- An entry that is parsed is in the bytes, as it is written.
use Rattle.sd_whole.proofs.Cited.{AceKind, Bool, Err, Gives, Guid, IfOk, IfSome, Layout, List, None, ObjectTypes, Ok, Option, Result, Some, TypedAce, WholeAce, WholeKind, WireError, [], add_assoc, ap, append-nil, append_assoc, arith, by_kind, by_layout, bytes_of_sid, cases_Bool, cells, chosen, cond, drop, cells_fit, eqb-true, false, flags_of, get_or, get_or-drop, good_is, guid_part, guid_read, has_object_types, inl, inr, is_set, is_some, kind_byte, kind_number, kind_of, length, length-drop, length-take-le, ltb-false, misfit, nat_lt, not-false, no_types, of_layout, opaque, body_of, passed, plain_body, plain_kind, plain_or_typed, refl, sids_stand, slice_range, subst, suc, sym, take, take-add, take-append-drop, to_le_bytes, true, type_of, typed_body, types_part, types_word, u16_at, u16_stands, u32_at, u32_stands, w16, w32, whole_ace_size, whole_entry_bytes, zero, ℕ, ◌%◌, ◌++◌, ◌+◌, ◌-◌, ◌<◌, ◌==◌, ◌∙◌, ◌∷◌, ◌≡◌, ◌≤◌}
use Rattle.sd_whole.specs.declared.ace.WholeAce.TheVariants.{Plain, Typed}
use Rattle.sd_whole.specs.declared.kind.WholeKind.TheVariants.{Allow, Deny}
use Rattle.sd_whole.specs.Entry.{entry_form}
use Rattle.sd_whole.specs.Layout.{types_read, layout_read}
use Rattle.sd_whole.specs.Reading.{body_read, whole_entry_read}
use Rattle.sd_whole.proofs.KindNumbers.{number_of_found}
use Rattle.sd_whole.proofs.Steps.{fit_is, fitted, if_sid_is, passes}
use Rattle.sd_wire.proofs.Found.{bound}

-- a part of bytes is made of bytes
pub rest_fits : (bytes : List ℕ) (o : ℕ) → ((i : ℕ) → get_or bytes i 0 < 256) → (i : ℕ) → get_or (drop o bytes) i 0 < 256
rest_fits bytes o fits i = rw (get_or-drop o bytes i 0) (fits (o + i))

-- ---- object types

guid_stands : (is_there : Bool) (bytes : List ℕ) (g : Option Guid) (n : ℕ) → guid_read is_there bytes ≡ Some (g, n) → (take n bytes ≡ guid_part g) × (is_some g ≡ is_there)
guid_stands false bytes g n e =
    let same = fit_is (None, 0) (g, n) e in
    let g_is : None ≡ g = ap (λ (x : Option Guid × ℕ). x.0) same in
    let n_is : 0 ≡ n = ap (λ (x : Option Guid × ℕ). x.1) same in
    (rw (← g_is, ← n_is) refl, rw (← g_is) refl)
guid_stands true bytes g n e =
    let long = passes _ _ _ e in
    let read : Option Guid × ℕ = (Some (record { bytes = take 16 bytes }), 16) in
    let same = fit_is read (g, n) long.1 in
    let g_is : Some (record { bytes = take 16 bytes }) ≡ g = ap (λ (x : Option Guid × ℕ). x.0) same in
    let n_is : 16 ≡ n = ap (λ (x : Option Guid × ℕ). x.1) same in
    (rw (← g_is, ← n_is) refl, rw (← g_is) refl)

-- the flags of the GUIDs that a word of two bits says are there
word_is : (w : ℕ) → nat_lt 3 w ≡ false → cond (is_set 1 w) 1 0 + cond (is_set 2 w) 2 0 ≡ w
word_is zero h = refl
word_is (suc zero) h = refl
word_is (suc (suc zero)) h = refl
word_is (suc (suc (suc zero))) h = refl
word_is (suc (suc (suc (suc w)))) h = let le : suc (suc (suc (suc w))) ≤ 3 = ltb-false _ _ h in absurd (omega arith)

pub types_stand : (has : Bool) (bytes : List ℕ) (types : ObjectTypes) (n : ℕ) → ((i : ℕ) → get_or bytes i 0 < 256) → types_read has bytes ≡ Some (types, n) → take n bytes ≡ types_part has types
unfolding types_read
types_stand false bytes types n fits e =
    let n_is : 0 ≡ n = ap (λ (x : ObjectTypes × ℕ). x.1) (fit_is (no_types, 0) (types, n) e) in rw (← n_is) refl
types_stand true bytes types n fits e =
    let w = u32_at bytes 0 in
    let long = passes _ _ _ e in
    let named = passes _ _ _ long.1 in
    let object = fitted _ _ _ named.1 in
    let inherited = fitted _ _ _ object.2 in
    let first = guid_stands (is_set 1 w) (drop 4 bytes) object.0.0 object.0.1 object.1 in
    let second = guid_stands (is_set 2 w) (drop object.0.1 (drop 4 bytes)) inherited.0.0 inherited.0.1 inherited.1 in
    let read : ObjectTypes × ℕ = (record { object = object.0.0; inherited = inherited.0.0 }, 4 + object.0.1 + inherited.0.1) in
    let same = fit_is read (types, n) inherited.2 in
    let types_is : record { object = object.0.0; inherited = inherited.0.0 } ≡ types = ap (λ (x : ObjectTypes × ℕ). x.0) same in
    let n_is : 4 + object.0.1 + inherited.0.1 ≡ n = ap (λ (x : ObjectTypes × ℕ). x.1) same in
    let word : take 4 bytes ≡ to_le_bytes w32 w = u32_stands bytes 0 (ltb-false _ _ long.0) fits in
    let written : types_word (record { object = object.0.0; inherited = inherited.0.0 }) ≡ w = rw (first.1, second.1) (word_is w named.0) in
    let pieces : take (4 + object.0.1 + inherited.0.1) bytes ≡ take 4 bytes ++ (take object.0.1 (drop 4 bytes) ++ take inherited.0.1 (drop object.0.1 (drop 4 bytes))) =
    ap (λ k. take k bytes) (add_assoc 4 object.0.1 inherited.0.1) ∙ take-add 4 (object.0.1 + inherited.0.1) bytes
    ∙ ap (λ (l : List ℕ). take 4 bytes ++ l) (take-add object.0.1 inherited.0.1 (drop 4 bytes)) in
    let parts : take (4 + object.0.1 + inherited.0.1) bytes ≡ types_part true (record { object = object.0.0; inherited = inherited.0.0 }) =
    pieces ∙ ap (λ (l : List ℕ). l ++ (take object.0.1 (drop 4 bytes) ++ take inherited.0.1 (drop object.0.1 (drop 4 bytes)))) (word ∙ ap (to_le_bytes w32) (sym written))
    ∙ ap (λ (l : List ℕ). to_le_bytes w32 (types_word (record { object = object.0.0; inherited = inherited.0.0 })) ++ (l ++ take inherited.0.1 (drop object.0.1 (drop 4 bytes)))) first.0
    ∙ ap (λ (l : List ℕ). to_le_bytes w32 (types_word (record { object = object.0.0; inherited = inherited.0.0 })) ++ (guid_part object.0.0 ++ l)) second.0 in
    ap (λ k. take k bytes) (sym n_is) ∙ parts ∙ ap (types_part true) types_is

-- ---- bodies

-- what stands before the bytes behind the SID
abbrev pub layout_part : Bool → Layout → List ℕ
layout_part has l = to_le_bytes w32 l.mask ++ (types_part has l.types ++ bytes_of_sid l.sid)

pub layout_stands : (has : Bool) (body : List ℕ) (l : Layout) → ((i : ℕ) → get_or body i 0 < 256) → layout_read has body ≡ Some l → take l.place body ≡ layout_part has l
unfolding layout_read
layout_stands has body l fits e =
    let long = passes _ _ _ e in
    let types = fitted _ _ _ long.1 in
    let sid = fitted _ _ _ types.2 in
    let behind = drop 4 body in
    let behind_fits = rest_fits body 4 fits in
    let mask : take 4 body ≡ to_le_bytes w32 (u32_at body 0) = u32_stands body 0 (ltb-false _ _ long.0) fits in
    let types_there : take types.0.1 behind ≡ types_part has types.0.0 = types_stand has behind types.0.0 types.0.1 behind_fits types.1 in
    let sid_there : take sid.0.1 (drop types.0.1 behind) ≡ bytes_of_sid sid.0.0 = sids_stand (drop types.0.1 behind) sid.0.0 sid.0.1 (rest_fits behind types.0.1 behind_fits) (if_sid_is _ _ sid.1) in
    let read : Layout = record { mask = u32_at body 0; types = types.0.0; sid = sid.0.0; place = 4 + types.0.1 + sid.0.1 } in
    let same : read ≡ l = fit_is read l sid.2 in
    let pieces : take (4 + types.0.1 + sid.0.1) body ≡ take 4 body ++ (take types.0.1 behind ++ take sid.0.1 (drop types.0.1 behind)) =
    ap (λ k. take k body) (add_assoc 4 types.0.1 sid.0.1) ∙ take-add 4 (types.0.1 + sid.0.1) body
    ∙ ap (λ (x : List ℕ). take 4 body ++ x) (take-add types.0.1 sid.0.1 behind) in
    let parts : take (4 + types.0.1 + sid.0.1) body ≡ layout_part has read =
    pieces ∙ ap (λ (x : List ℕ). x ++ (take types.0.1 behind ++ take sid.0.1 (drop types.0.1 behind))) mask
    ∙ ap (λ (x : List ℕ). to_le_bytes w32 (u32_at body 0) ++ (x ++ take sid.0.1 (drop types.0.1 behind))) types_there
    ∙ ap (λ (x : List ℕ). to_le_bytes w32 (u32_at body 0) ++ (types_part has types.0.0 ++ x)) sid_there in
    subst (λ (x : Layout). take x.place body ≡ layout_part has x) same parts

-- what an entry is written with
pub record IsOf (type flags : ℕ) (body : List ℕ) (e : WholeAce) : Type 0 where
  pub type_is : type_of e ≡ type
  pub flags_is : flags_of e ≡ flags
  pub body_is : body_of e ≡ body

-- an allow or a deny is no object entry
plain_kinds : (kind : WholeKind) → IfSome (plain_kind kind) (λ p. (kind_byte p ≡ kind_number kind) × (has_object_types kind ≡ false))
plain_kinds Allow = (refl, refl)
plain_kinds Deny = (refl, refl)
plain_kinds _ = tt

pub no_items : (l : List ℕ) → (length l == 0) ≡ true → l ≡ []
no_items [] h = refl
no_items (x ∷ l) h = let none : length (x ∷ l) ≡ 0 = eqb-true _ _ h in absurd (omega arith)

plain_or_typed_is : (p : Option AceKind) (e : TypedAce) → IfSome p (λ p. (kind_byte p ≡ kind_number e.kind) × (has_object_types e.kind ≡ false)) → IsOf (kind_number e.kind) e.flags.0 (typed_body e) (plain_or_typed p e)
plain_or_typed_is None e h = record { type_is = refl; flags_is = refl; body_is = refl }
plain_or_typed_is (Some p) e h = elim (cases_Bool (length e.trailing == 0)) [
  | inl none ↦
      let empty : e.trailing ≡ [] = no_items e.trailing none in
      let plain : plain_or_typed (Some p) e ≡ Plain (record { kind = p; flags = e.flags; mask = e.mask; sid = e.sid }) = rw none refl in
      let body : plain_body (record { kind = p; flags = e.flags; mask = e.mask; sid = e.sid }) ≡ typed_body e = rw (h.1, empty, append-nil (bytes_of_sid e.sid)) refl in
      subst (λ x. IsOf (kind_number e.kind) e.flags.0 (typed_body e) x) (sym plain) (record { type_is = h.0; flags_is = refl; body_is = body })
  | inr some ↦
      let typed : plain_or_typed (Some p) e ≡ Typed e = rw some refl in
      subst (λ x. IsOf (kind_number e.kind) e.flags.0 (typed_body e) x) (sym typed) (record { type_is = refl; flags_is = refl; body_is = refl })
]

-- the entry that a layout gives
abbrev pub of_parts : WholeKind → ℕ → List ℕ → Layout → TypedAce
of_parts kind flags body l = record { kind = kind; flags = record { 0 = flags }; mask = l.mask; types = l.types; sid = l.sid; trailing = drop l.place body }

pub parts_are_body : (kind : WholeKind) (flags : ℕ) (body : List ℕ) (l : Layout) → take l.place body ≡ layout_part (has_object_types kind) l → typed_body (of_parts kind flags body l) ≡ body
parts_are_body kind flags body l h =
    let types = types_part (has_object_types kind) l.types in
    ap (λ (x : List ℕ). to_le_bytes w32 l.mask ++ x) (sym (append_assoc types (bytes_of_sid l.sid) (drop l.place body)))
    ∙ sym (append_assoc (to_le_bytes w32 l.mask) (types ++ bytes_of_sid l.sid) (drop l.place body))
    ∙ ap (λ (x : List ℕ). x ++ drop l.place body) (sym h) ∙ take-append-drop l.place body

of_layout_is : (kind : WholeKind) (flags : ℕ) (body : List ℕ) (l : Layout) → take l.place body ≡ layout_part (has_object_types kind) l → IsOf (kind_number kind) flags body (of_layout kind flags body l)
of_layout_is kind flags body l h =
    subst (λ b. IsOf (kind_number kind) flags b (of_layout kind flags body l)) (parts_are_body kind flags body l h) (plain_or_typed_is (plain_kind kind) (of_parts kind flags body l) (plain_kinds kind))

misfit_is : (type flags : ℕ) (body : List ℕ) (e : WholeAce) → misfit type flags body ≡ Ok e → IsOf type flags body e
misfit_is type flags body e h = elim (chosen (nat_lt 1 type) _ _ _ h) [
  | inl kept ↦ subst (λ x. IsOf type flags body x) (good_is (opaque type flags body) e kept.1) (record { type_is = refl; flags_is = refl; body_is = refl })
  | inr faulty ↦ elim (chosen (nat_lt (length body) 12) _ _ _ faulty.1) [ inl short ↦ absurd (let no = short.1 in cc) | inr bad ↦ absurd (let no = bad.1 in cc) ]
]

by_layout_is : (kind : WholeKind) (type flags : ℕ) (body : List ℕ) (o : Option Layout) (e : WholeAce) → kind_number kind ≡ type → IfSome o (λ l. take l.place body ≡ layout_part (has_object_types kind) l)
    → by_layout kind type flags body o ≡ Ok e → IsOf type flags body e
by_layout_is kind type flags body None e number there h = misfit_is type flags body e h
by_layout_is kind type flags body (Some l) e number there h =
    subst (λ x. IsOf type flags body x) (good_is (of_layout kind flags body l) e h) (subst (λ t. IsOf t flags body (of_layout kind flags body l)) number (of_layout_is kind flags body l there))

layout_there : (has : Bool) (body : List ℕ) (o : Option Layout) → ((i : ℕ) → get_or body i 0 < 256) → layout_read has body ≡ o → IfSome o (λ l. take l.place body ≡ layout_part has l)
layout_there has body None fits h = tt
layout_there has body (Some l) fits h = layout_stands has body l fits h

by_kind_is : (k : Option WholeKind) (type flags : ℕ) (body : List ℕ) (e : WholeAce) → IfSome k (λ kind. kind_number kind ≡ type) → ((i : ℕ) → get_or body i 0 < 256) → by_kind k type flags body ≡ Ok e → IsOf type flags body e
by_kind_is None type flags body e number fits h =
    subst (λ x. IsOf type flags body x) (good_is (opaque type flags body) e h) (record { type_is = refl; flags_is = refl; body_is = refl })
by_kind_is (Some kind) type flags body e number fits h =
    let has = has_object_types kind in
    by_layout_is kind type flags body (layout_read has body) e number (layout_there has body (layout_read has body) fits refl) h

named : (number : ℕ) (k : Option WholeKind) → kind_of number ≡ k → IfSome k (λ kind. kind_number kind ≡ number)
named number None h = tt
named number (Some kind) h = number_of_found number kind h

pub body_is_of : (type flags : ℕ) (body : List ℕ) (e : WholeAce) → ((i : ℕ) → get_or body i 0 < 256) → body_read type flags body ≡ Ok e → IsOf type flags body e
unfolding body_read
body_is_of type flags body e fits h = by_kind_is (kind_of type) type flags body e (named type (kind_of type) refl) fits h

-- ---- entries

-- an entry that was parsed, and its AceSize
pub record Stood (bytes : List ℕ) (e : WholeAce) (n : ℕ) : Type 0 where
  pub stands : take n bytes ≡ whole_entry_bytes e
  pub size : whole_ace_size e ≡ n
  pub within : n ≤ length bytes
  pub aligned : n % 4 ≡ 0

form_stands : (bytes body : List ℕ) (n : ℕ) → ((i : ℕ) → get_or bytes i 0 < 256) → u16_at bytes 2 ≡ n → 4 ≤ n → n ≤ length bytes → body ≡ slice_range bytes 4 n → take n bytes ≡ entry_form (get_or bytes 0 0) (get_or bytes 1 0) body
unfolding entry_form
form_stands bytes body n fits sized least within is =
    let front : take 2 bytes ≡ get_or bytes 0 0 ∷ get_or bytes 1 0 ∷ [] = cells bytes 0 2 (omega arith) in
    let size : take 2 (drop 2 bytes) ≡ to_le_bytes w16 (u16_at bytes 2) = u16_stands bytes 2 (omega arith) fits in
    let long : length body ≡ n - 4 = ap length is ∙ length-take-le (n - 4) (drop 4 bytes) (omega (arith, length-drop 4 bytes)) in
    let whole : 4 + length body ≡ u16_at bytes 2 = omega arith in
    let split : n ≡ 4 + (n - 4) = omega arith in
    ap (λ k. take k bytes) split ∙ take-add 4 (n - 4) bytes
    ∙ ap (λ (x : List ℕ). x ++ take (n - 4) (drop 4 bytes)) (take-add 2 2 bytes)
    ∙ ap (λ (x : List ℕ). (x ++ take 2 (drop 2 bytes)) ++ take (n - 4) (drop 4 bytes)) front
    ∙ ap (λ (x : List ℕ). ((get_or bytes 0 0 ∷ get_or bytes 1 0 ∷ []) ++ x) ++ take (n - 4) (drop 4 bytes)) (size ∙ ap (to_le_bytes w16) (sym whole))
    ∙ ap (λ (x : List ℕ). ((get_or bytes 0 0 ∷ get_or bytes 1 0 ∷ []) ++ to_le_bytes w16 (4 + length body)) ++ x) (sym is)

pub range_fits : (bytes : List ℕ) (o end : ℕ) → ((i : ℕ) → get_or bytes i 0 < 256) → (i : ℕ) → get_or (slice_range bytes o end) i 0 < 256
range_fits bytes o end fits = cells_fit bytes o (end - o) fits

pub entry_stands : (bytes : List ℕ) (e : WholeAce) (n : ℕ) → ((i : ℕ) → get_or bytes i 0 < 256) → whole_entry_read bytes ≡ Ok (e, n) → Stood bytes e n
unfolding whole_entry_read
entry_stands bytes e n fits h =
    let header = passed _ _ _ _ h in
    let least = passed _ _ _ _ header.1 in
    let even = passed _ _ _ _ least.1 in
    let inside = passed _ _ _ _ even.1 in
    let read = bound _ _ _ inside.1 in
    let same = good_is (read.0, u16_at bytes 2) (e, n) read.2 in
    let e_is : read.0 ≡ e = ap (λ (x : WholeAce × ℕ). x.0) same in
    let n_is : u16_at bytes 2 ≡ n = ap (λ (x : WholeAce × ℕ). x.1) same in
    let body = slice_range bytes 4 (u16_at bytes 2) in
    let of = subst (λ x. IsOf (get_or bytes 0 0) (get_or bytes 1 0) body x) e_is (body_is_of (get_or bytes 0 0) (get_or bytes 1 0) body read.0 (range_fits bytes 4 (u16_at bytes 2) fits) read.1) in
    let low : 4 ≤ u16_at bytes 2 = ltb-false _ _ least.0 in
    let high : u16_at bytes 2 ≤ length bytes = ltb-false _ _ inside.0 in
    let formed : take (u16_at bytes 2) bytes ≡ entry_form (get_or bytes 0 0) (get_or bytes 1 0) body = form_stands bytes body (u16_at bytes 2) fits refl low high refl in
    let sized : length body ≡ u16_at bytes 2 - 4 = length-take-le (u16_at bytes 2 - 4) (drop 4 bytes) (omega (arith, length-drop 4 bytes)) in
    record {
      stands = ap (λ k. take k bytes) (sym n_is) ∙ formed ∙ ap (λ t. entry_form t (get_or bytes 1 0) body) (sym of.type_is)
          ∙ ap (λ f. entry_form (type_of e) f body) (sym of.flags_is) ∙ ap (λ b. entry_form (type_of e) (flags_of e) b) (sym of.body_is);
      size = omega (arith, ap length of.body_is);
      within = omega arith;
      aligned = ap (λ k. k % 4) (sym n_is) ∙ eqb-true _ _ (not-false _ even.0);
    }

-- what was parsed has the size that it is written with
pub sized : (bytes : List ℕ) (r : Result (WholeAce × ℕ) WireError) → ((i : ℕ) → get_or bytes i 0 < 256) → Gives (λ x. x) r (whole_entry_read bytes) → IfOk r (λ x. (whole_ace_size x.0 ≡ x.1) × (x.1 ≤ length bytes))
sized bytes (Ok x) fits h = let s = entry_stands bytes x.0 x.1 fits h in (s.size, s.within)
sized bytes (Err e) fits h = tt
