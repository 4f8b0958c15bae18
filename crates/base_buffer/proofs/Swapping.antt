-- Two blocks of one length swapped. Assumes nothing.
use mathlib.Core.Path.{◌≡◌, refl, sym, ap, ap₂, ◌∙◌}
use mathlib.Core.List.{List, ◌++◌, append_assoc}
use Prim.Native.Nat.{ℕ, ◌+◌, ◌-◌, ◌≤◌}
use native.Mathlib.Omega.{arith}
use lib.ListN.{length, take, drop, length-append, length-drop, take-append-drop}
use lib.Seq.{paste, length-take-le}
use Rattle.base_number.proofs.Fields.{field-read, field-written}

-- b with the k bytes from i on and the k from j on exchanged
abbrev pub swapped : List ℕ → ℕ → ℕ → ℕ → List ℕ
swapped b i j k = paste (paste b i (drop j b) k) j (drop i b) k

-- a swap of x and y, as long as each other, with m between them
pub swap-parts : (b pre x m y z : List ℕ) (i j n : ℕ) → b ≡ pre ++ (x ++ (m ++ (y ++ z))) → length pre ≡ i → length x ≡ n → length y ≡ n → j ≡ i + (n + length m)
    → swapped b i j n ≡ pre ++ (y ++ (m ++ (x ++ z)))
swap-parts b pre x m y z i j n e lp lx ly ej =
    let p : List ℕ = paste b i (drop j b) n in
    let before : length (pre ++ (x ++ m)) ≡ j = omega (arith, length-append pre (x ++ m), length-append x m) in
    let before' : length (pre ++ (y ++ m)) ≡ j = omega (arith, length-append pre (y ++ m), length-append y m) in
    let ty : take n (drop j b) ≡ y = field-read b (pre ++ (x ++ m)) y z j n (e ∙ simp append_assoc) before ly in
    let tx : take n (drop i b) ≡ x = field-read b pre x (m ++ (y ++ z)) i n e lp lx in
    let ep : p ≡ pre ++ (y ++ (m ++ (y ++ z))) =
    field-written b pre x (m ++ (y ++ z)) i n e lp lx p (take n (drop j b)) refl ∙ ap (λ (u : List ℕ). pre ++ (u ++ (m ++ (y ++ z)))) ty in
    field-written p (pre ++ (y ++ m)) y z j n (ep ∙ simp append_assoc) before' ly (swapped b i j n) (take n (drop i b)) refl
    ∙ ap (λ (u : List ℕ). (pre ++ (y ++ m)) ++ (u ++ z)) tx
    ∙ simp append_assoc

-- the halves of b, before j and from j on, with their blocks exchanged
pub exchanged : (b : List ℕ) (i j n k : ℕ) → k ≡ n → i + n ≤ j → j + n ≤ length b
    → (take i (take j b) ++ (take n (drop j b) ++ drop k (drop i (take j b)))) ++ (take k (drop i (take j b)) ++ drop n (drop j b)) ≡ swapped b i j n
exchanged b i j n k q apart room =
    let left : List ℕ = take j b in
    let right : List ℕ = drop j b in
    let pre : List ℕ = take i left in
    let x : List ℕ = take n (drop i left) in
    let m : List ℕ = drop n (drop i left) in
    let y : List ℕ = take n right in
    let z : List ℕ = drop n right in
    let ll : length left ≡ j = length-take-le j b (omega arith) in
    let lr : length right ≡ length b - j = length-drop j b in
    let lp : length pre ≡ i = length-take-le i left (omega arith) in
    let ld : length (drop i left) ≡ j - i = length-drop i left ∙ ap (λ (h : ℕ). h - i) ll in
    let lx : length x ≡ n = length-take-le n (drop i left) (omega arith) in
    let lm : length m ≡ j - i - n = length-drop n (drop i left) ∙ ap (λ (h : ℕ). h - n) ld in
    let ly : length y ≡ n = length-take-le n right (omega arith) in
    let told : b ≡ pre ++ (x ++ (m ++ (y ++ z))) =
    sym (take-append-drop j b)
    ∙ ap₂ (λ (u v : List ℕ). u ++ v) (sym (take-append-drop i left) ∙ ap (λ (u : List ℕ). pre ++ u) (sym (take-append-drop n (drop i left)))) (sym (take-append-drop n right))
    ∙ simp append_assoc in
    ap (λ (h : ℕ). (pre ++ (y ++ drop h (drop i left))) ++ (take h (drop i left) ++ z)) q
    ∙ append_assoc pre (y ++ m) (x ++ z)
    ∙ ap (λ (u : List ℕ). pre ++ u) (append_assoc y m (x ++ z))
    ∙ sym (swap-parts b pre x m y z i j n told lp lx ly (omega arith))
