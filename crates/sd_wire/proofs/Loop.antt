-- Parsing entries one after the other, as a loop does.
use Rattle.sd_wire.proofs.Cited.{Err, Fails, Fault, List, Memory, Ok, Result, WireError, WireFault, [], ap, append-nil, append_assoc, arith, drop, length, length-drop, refl, subst, suc, sum_by, sum_by_push, sym, take, take_all, ℕ, ◌++◌, ◌+◌, ◌-◌, ◌<◌, ◌>>=◌, ◌∙◌, ◌∷◌, ◌≡◌, ◌≤◌}
use Rattle.sd_wire.specs.Reading.{entries_of}

-- the entries that were parsed before, and those that are left
abbrev pub behind : {A : Type 0} → List A → Result (List A) WireFault → Result (List A) WireFault
behind front read = read >>= λ es. Ok (front ++ es)

regroup : {A : Type 0} (front : List A) (e : A) (read : Result (List A) WireFault) → behind front (read >>= λ es. Ok (e ∷ es)) ≡ behind (front ++ e ∷ []) read
regroup {A = A} front e (Ok es) = ap (λ (x : List A). Ok x) (simp append_assoc)
regroup front e (Err f) = refl

behind_none : {A : Type 0} (read : Result (List A) WireFault) → behind [] read ≡ read
behind_none (Ok es) = refl
behind_none (Err fault) = refl

-- the bytes behind an entry, as a slice
left_over : (rest : List ℕ) (size : ℕ) → take (length rest - size) (drop size rest) ≡ drop size rest
left_over rest size = take_all (length rest - size) (drop size rest) (omega (arith, length-drop size rest))

pub length_left : (rest : List ℕ) (size : ℕ) → length (take (length rest - size) (drop size rest)) ≡ length rest - size
length_left rest size = ap length (left_over rest size) ∙ length-drop size rest

module _ {A : Type 0} (read : List ℕ → Result (A × ℕ) WireFault) where
  pub begins : (bytes : List ℕ) (count : ℕ) → behind [] (entries_of read bytes (count - 0)) ≡ entries_of read bytes count
  begins bytes count = let same : count - 0 ≡ count = omega arith in rw same (behind_none (entries_of read bytes count))

  pub goes_on : (rest : List ℕ) (count k : ℕ) (front : List A) (e : A) (size : ℕ) (total : Result (List A) WireFault) → k < count → read rest ≡ Ok (e, size)
      → behind front (entries_of read rest (count - k)) ≡ total → behind (front ++ e ∷ []) (entries_of read (take (length rest - size) (drop size rest)) (count - (k + 1))) ≡ total
  unfolding entries_of
  goes_on rest count k front e size total lt h so_far =
      let left : count - k ≡ suc (count - (k + 1)) = omega arith in
      let one : behind front (entries_of read rest (count - k)) ≡ behind (front ++ e ∷ []) (entries_of read (drop size rest) (count - (k + 1))) = rw (left, h) (regroup front e (entries_of read (drop size rest) (count - (k + 1)))) in
      subst (λ (x : List ℕ). behind (front ++ e ∷ []) (entries_of read x (count - (k + 1))) ≡ total) (sym (left_over rest size)) (sym one ∙ so_far)

  pub ends : (rest : List ℕ) (count k : ℕ) (front : List A) (fault : WireFault) (total : Result (List A) WireFault) → k < count → read rest ≡ Err fault
      → behind front (entries_of read rest (count - k)) ≡ total → total ≡ Err fault
  unfolding entries_of
  ends rest count k front fault total lt h so_far =
      let left : count - k ≡ suc (count - (k + 1)) = omega arith in
      let one : behind front (entries_of read rest (count - k)) ≡ Err fault = rw (left, h) refl in
      sym so_far ∙ one

  pub is_done : (rest : List ℕ) (count k : ℕ) (front : List A) (total : Result (List A) WireFault) → count ≤ k
      → behind front (entries_of read rest (count - k)) ≡ total → total ≡ Ok front
  unfolding entries_of
  is_done rest count k front total le so_far =
      let left : count - k ≡ 0 = omega arith in
      let one : behind front (entries_of read rest (count - k)) ≡ Ok front = rw left (ap (λ (x : List A). Ok x) (append-nil front)) in
      sym so_far ∙ one

  -- an error of an entry is one of them all
  pub fails : (rest : List ℕ) (count k : ℕ) (front : List A) (err : WireError) (total : Result (List A) WireFault) → k < count → Fails err (read rest)
      → behind front (entries_of read rest (count - k)) ≡ total → Fails err total
  fails rest count k front Memory total lt h so_far = tt
  fails rest count k front (Fault fault) total lt h so_far = ends rest count k front fault total lt h so_far

-- one entry more takes its bytes of those that are left
pub one_more : {A : Type 0} (taken : A → ℕ) (front : List A) (e : A) (rest : List ℕ) (size len : ℕ) → taken e ≤ size → size ≤ length rest → sum_by taken front + length rest ≤ len
    → sum_by taken (front ++ e ∷ []) + length (take (length rest - size) (drop size rest)) ≤ len
one_more taken front e rest size len fits within sum =
    let pushed : sum_by taken (front ++ e ∷ []) ≡ sum_by taken front + taken e = sum_by_push taken front e in
    let left = length_left rest size in
    omega arith
