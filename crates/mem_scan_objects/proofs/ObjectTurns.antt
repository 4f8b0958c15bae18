-- A turn of the scan of objects. Assumes nothing.
use Prim.Native.Nat.{ℕ, ◌+◌, ◌-◌, ◌*◌, ◌≤◌, ◌<◌}
use mathlib.Core.Path.{◌≡◌, refl, sym, ap, ◌∙◌}
use mathlib.Core.Bool.{Bool, true, false, not}
use mathlib.Core.List.{List}
use native.Mathlib.Nat.{add-sub_cancel_left}
use native.Mathlib.Omega.{arith}
use lib.ListN.{take, drop}
use Rattle.base_number.specs.Number.{AreBytes}
use Rattle.mem_row.specs.declared.Head.{Head}
use Rattle.mem_row.specs.Row.{head_length, row_at}
use Rattle.mem_scan_rows.specs.declared.Offset.{Offset}
use Rattle.mem_layout.specs.Rules.{object_rule, object_ok, object_next}
use Rattle.mem_scan_rows.specs.Scan.{reading_of, past}
use Rattle.mem_scan_objects.specs.Scan.{object_scan}
use borrow.Author.Tests.{not-true, not-false}
use Rattle.mem_scan_rows.proofs.Turns.{path_part, head-of, path-of, lengths-of, content-of, good-end, past_end, good-short, good-wrong, good-next, past_next}
use Rattle.std.specs.Prelude.{Option, Some, None}

module _ (t a : List ℕ) (most n i : ℕ) (last : List ℕ) (o : Offset) where
  pub objects-end : n ≤ i → object_scan most (n - i) last o t a ≡ Some o
  unfolding object_scan
  objects-end l = rw (good-end (List ℕ) (object_ok most) object_next t a n i last o l, past_end (List ℕ) (object_ok most) object_next t a n i last o l)

  module _ (l : i < n) where
    pub objects-short : reading_of (drop o.at t) (drop o.base a) ≡ None → object_scan most (n - i) last o t a ≡ None
    unfolding object_scan
    objects-short e = rw (good-short (List ℕ) (object_ok most) object_next t a n i last o l e)

    module _ (bytes : AreBytes t) (h : Head) (f : reading_of (drop o.at t) (drop o.base a) ≡ Some h) (r : Bool)
        (e : r ≡ object_rule most last h (path_part t o h) (take (2 * h.pairs) (drop (o.at + head_length + h.pathlen) t)) (take h.size (drop o.base a))) where
      judged : object_ok most last (row_at (drop o.at t) (drop o.base a)) ≡ r
      judged = rw (head-of t a o h f bytes, path-of t a o h f bytes, lengths-of t a o h f bytes, content-of t a o h f bytes, add-sub_cancel_left (o.at + head_length + h.pathlen) (2 * h.pairs), add-sub_cancel_left o.base h.size) (sym e)

      pub objects-wrong : not r ≡ true → object_scan most (n - i) last o t a ≡ None
      unfolding object_scan
      objects-wrong q = rw (good-wrong (List ℕ) (object_ok most) object_next t a n i last o l h f (judged ∙ not-true r q))

      pub objects-next : not r ≡ false → object_scan most (n - i) last o t a ≡ object_scan most (n - (i + 1)) (path_part t o h) (past o h) t a
      unfolding object_scan
      objects-next q =
          rw (
            good-next (List ℕ) (object_ok most) object_next t a n i last o l h f (judged ∙ not-false r q),
            past_next (List ℕ) (object_ok most) object_next t a n i last o l h f,
            path-of t a o h f bytes,
          )

    -- the same of a row without pairs, which ends where its path ends
    pub objects-usual : AreBytes t → (h : Head) → reading_of (drop o.at t) (drop o.base a) ≡ Some h → h.pairs ≡ 0
        → object_rule most last h (path_part t o h) (take (2 * h.pairs) (drop (o.at + head_length + h.pathlen) t)) (take h.size (drop o.base a)) ≡ true
        → object_scan most (n - i) last o t a
        ≡ object_scan most (n - (i + 1)) (path_part t o h) (record { at = o.at + head_length + h.pathlen; base = o.base + h.size }) t a
    objects-usual bytes h f none e =
        objects-next bytes h f true (sym e) refl
        ∙ ap (λ (x : ℕ). object_scan most (n - (i + 1)) (path_part t o h) (record { at = x; base = o.base + h.size }) t a) (omega arith)
