-- Bytes moved within a list, a block at a time, in the direction that reads each before it is written over. Assumes nothing.
use mathlib.Core.Path.{◌≡◌, sym, ap, ap₂, ◌∙◌}
use mathlib.Core.List.{List, ◌++◌, append_assoc}
use Prim.Native.Nat.{ℕ, ◌+◌, ◌-◌, ◌≤◌}
use native.Mathlib.Nat.{add-zero}
use native.Mathlib.Omega.{arith}
use lib.ListN.{length, take, drop, length-drop, take-append-drop}
use lib.Seq.{paste, paste-zero, length-paste, take-paste, drop-paste, take-add, take_at, drop_at, take-take, drop-drop, length-take-le}
use Rattle.base_number.proofs.Fields.{drop-take}

-- a part of b that is held at the front of a longer list
pub held : (h' h b : List ℕ) (from to n : ℕ) → to ≡ from + n → to ≤ length b
    → h' ≡ take 0 h ++ take (to - from) (drop from b) ++ drop (0 + length (take (to - from) (drop from b))) h → take n h' ≡ take n (drop from b)
held h' h b from to n q room e =
    let w : to - from ≡ n = omega arith in
    let s : List ℕ = take (to - from) (drop from b) in
    let l : length s ≡ n = length-take-le (to - from) (drop from b) (rw (length-drop from b) (omega arith)) ∙ w in
    ap (take n) e ∙ take_at s (drop (0 + length s) h) n l ∙ ap (λ (m : ℕ). take m (drop from b)) w

-- the part that is held, written back at another place
pub put_back : (b b' s : List ℕ) (from to n : ℕ) → from + n ≤ length b → s ≡ take n (drop from b)
    → b' ≡ take to b ++ s ++ drop (to + length s) b → b' ≡ paste b to (drop from b) n
put_back b b' s from to n room part e =
    let l : length s ≡ n = ap length part ∙ length-take-le n (drop from b) (rw (length-drop from b) (omega arith)) in
    e ∙ ap₂ (λ (u : List ℕ) (m : ℕ). take to b ++ u ++ drop (to + m) b) part l

-- a part of a list is the end of its front
pub part_of : (l : List ℕ) (from m : ℕ) → from ≤ length l → take m (drop from l) ≡ drop from (take (from + m) l)
part_of l from m room =
    let q : from + m - from ≡ m = omega arith in
    sym (drop-take from (from + m) l (omega arith) room ∙ ap (λ (i : ℕ). take i (drop from l)) q)

-- bytes written over themselves leave the list
pub in_place : (b : List ℕ) (at n : ℕ) → b ≡ paste b at (drop at b) n
in_place b at n = sym (ap (λ (l : List ℕ). l ++ drop (at + n) b) (sym (take-add at n b)) ∙ take-append-drop (at + n) b)

-- the k bytes after the first i follow them to the left
pub left-block : (b b₁ b₂ : List ℕ) (from to i k : ℕ) → to ≤ from → from + (i + k) ≤ length b
    → b₁ ≡ paste b to (drop from b) i → b₂ ≡ paste b₁ (to + i) (drop (from + i) b₁) k → b₂ ≡ paste b to (drop from b) (i + k)
left-block b b₁ b₂ from to i k le room one two =
    let s : List ℕ = drop from b in
    let is : i ≤ length s = rw (length-drop from b) (omega arith) in
    let front : take (to + i) b₁ ≡ take to b ++ take i s = ap (take (to + i)) one ∙ take-paste b to s i (omega arith) is in
    let back : drop (to + i) b₁ ≡ drop (to + i) b = ap (drop (to + i)) one ∙ drop-paste b to s i (omega arith) is in
    let later : (j : ℕ) → drop (to + i + j) b₁ ≡ drop (to + i + j) b =
    λ j. sym (drop-drop j (to + i) b₁) ∙ ap (drop j) back ∙ drop-drop j (to + i) b in
    let q : to + i + (from - to) ≡ from + i = omega arith in
    let read : drop (from + i) b₁ ≡ drop i s = rw q at (later (from - to)) ∙ sym (drop-drop i from b) in
    let end : to + i + k ≡ to + (i + k) = omega arith in
    two
    ∙ ap (λ (l : List ℕ). l ++ take k (drop (from + i) b₁) ++ drop (to + i + k) b₁) front
    ∙ ap₂ (λ (u v : List ℕ). take to b ++ take i s ++ take k u ++ v) read (later k)
    ∙ ap (λ (l : List ℕ). l ++ drop (to + i + k) b) (append_assoc (take to b) (take i s) (take k (drop i s)))
    ∙ ap₂ (λ (u : List ℕ) (j : ℕ). take to b ++ u ++ drop j b) (sym (take-add i k s)) end

-- b with those of the n bytes from `from` on that stand i or further in them moved to `to`
abbrev pub moved-from : List ℕ → ℕ → ℕ → ℕ → ℕ → List ℕ
moved-from b from to n i = paste b (to + i) (drop (from + i) b) (n - i)

-- before a move to the right
pub right-none : (b : List ℕ) (from to n : ℕ) → b ≡ moved-from b from to n n
right-none b from to n =
    let q : n - n ≡ 0 = omega arith in
    paste-zero b (to + n) (drop (from + n) b) ∙ ap (λ (m : ℕ). paste b (to + n) (drop (from + n) b) m) (sym q)

-- the k bytes before those moved follow them to the right
pub right-block : (b b₁ b₂ : List ℕ) (from to n i k : ℕ) → from ≤ to → to + n ≤ length b → i ≤ n → k ≤ i
    → b₁ ≡ moved-from b from to n i → b₂ ≡ paste b₁ (to + (i - k)) (drop (from + (i - k)) b₁) k → b₂ ≡ moved-from b from to n (i - k)
right-block b b₁ b₂ from to n i k le room ni ki one two =
    let f : ℕ = from + (i - k) in
    let t : ℕ = to + (i - k) in
    let s : List ℕ = drop f b in
    let upper : List ℕ = take (n - i) (drop (from + i) b) in
    let rest : List ℕ = upper ++ drop (to + i + (n - i)) b in
    let e : b₁ ≡ take (to + i) b ++ rest = one ∙ append_assoc (take (to + i) b) upper (drop (to + i + (n - i)) b) in
    let lt : length (take (to + i) b) ≡ to + i = length-take-le (to + i) b (omega arith) in
    let front : take (to + i) b₁ ≡ take (to + i) b = ap (take (to + i)) e ∙ take_at (take (to + i) b) rest (to + i) lt in
    let lower : (j : ℕ) → j ≤ to + i → take j b₁ ≡ take j b =
    λ j h. sym (take-take j (to + i) b₁ h) ∙ ap (take j) front ∙ take-take j (to + i) b h in
    let back : drop (to + i) b₁ ≡ rest = ap (drop (to + i)) e ∙ drop_at (take (to + i) b) rest (to + i) lt in
    let l₁ : length b₁ ≡ length b = ap length one ∙ length-paste b (to + i) (drop (from + i) b) (n - i) (omega arith) (rw (length-drop (from + i) b) (omega arith)) in
    let read : take k (drop f b₁) ≡ take k s =
    part_of b₁ f k (omega arith) ∙ ap (drop f) (lower (f + k) (omega arith)) ∙ sym (part_of b f k (omega arith)) in
    let tk : t + k ≡ to + i = omega arith in
    let fk : f + k ≡ from + i = omega arith in
    let kn : k + (n - i) ≡ n - (i - k) = omega arith in
    let end : to + i + (n - i) ≡ t + (n - (i - k)) = omega arith in
    let all : take k s ++ upper ≡ take (n - (i - k)) s =
    ap (λ (l : List ℕ). take k s ++ take (n - i) l) (sym (drop-drop k f b ∙ ap (λ (j : ℕ). drop j b) fk))
    ∙ sym (take-add k (n - i) s) ∙ ap (λ (j : ℕ). take j s) kn in
    two
    ∙ ap₂ (λ (u v : List ℕ). u ++ v ++ drop (t + k) b₁) (lower t (omega arith)) read
    ∙ ap (λ (l : List ℕ). take t b ++ take k s ++ l) (ap (λ (j : ℕ). drop j b₁) tk ∙ back)
    ∙ sym (append_assoc (take t b ++ take k s) upper (drop (to + i + (n - i)) b))
    ∙ ap (λ (l : List ℕ). l ++ drop (to + i + (n - i)) b) (append_assoc (take t b) (take k s) upper)
    ∙ ap₂ (λ (u : List ℕ) (j : ℕ). take t b ++ u ++ drop j b) all end

-- after it
pub right-all : (b b₁ : List ℕ) (from to n i : ℕ) → i ≤ 0 → b₁ ≡ moved-from b from to n i → b₁ ≡ paste b to (drop from b) n
right-all b b₁ from to n i none e =
    let q : i ≡ 0 = omega arith in
    let z : n - 0 ≡ n = omega arith in
    e
    ∙ ap (λ (k : ℕ). moved-from b from to n k) q
    ∙ ap₂ (λ (u v : ℕ). paste b u (drop v b) (n - 0)) (add-zero to) (add-zero from)
    ∙ ap (λ (k : ℕ). paste b to (drop from b) k) z
