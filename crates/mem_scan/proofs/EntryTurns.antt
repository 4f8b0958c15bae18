-- A turn of the test of uploads and parts. Assumes nothing.
use Prim.Native.Nat.{ℕ, ◌+◌, ◌-◌, ◌≤◌, ◌<◌}
use mathlib.Core.Path.{◌≡◌, refl, sym, ap, ◌∙◌}
use mathlib.Core.Bool.{Bool, true, false, not, cond}
use mathlib.Core.List.{List}
use native.Mathlib.Nat.{add-zero, add_assoc}
use native.Mathlib.Omega.{arith}
use lib.Dec.{eqb, lit≤}
use lib.ListN.{drop}
use Rattle.base_number.specs.Number.{AreBytes}
use Rattle.mem_row.specs.declared.Head.{Head}
use Rattle.mem_row.specs.Row.{Row, row_at, rows_at, head_length}
use Rattle.mem_layout.specs.declared.Mark.{Mark}
use Rattle.mem_scan_rows.specs.declared.Offset.{Offset}
use Rattle.mem_layout.specs.Rules.{entry_rule, part_rule, upload_kind, entry_ok, entry_next, mark_after}
use Rattle.mem_layout.specs.Memory.{uploads_among}
use Rattle.mem_scan_rows.specs.Scan.{reading_of, past}
use Rattle.mem_scan.specs.Scan.{opens_one, entries_ok, entry_scan}
use borrow.Author.Tests.{eq-eqb, ne_eqb, not-true, not-false}
use Rattle.mem_scan.proofs.Readings.{part-is}
use Rattle.mem_scan_rows.proofs.Turns.{digest_part, path_part, lengths_part, content_part, head-of, digest-of, path-of, lengths-of, content-of, rest-tables, rest-arena, more, good-end, past_end, good-short, good-wrong, good-next, past_next}
use Rattle.std.specs.Prelude.{Option, Some, None}

pub opens_small : (h : Head) → opens_one h ≤ 1
unfolding opens_one
opens_small h = small (eqb h.kind upload_kind)
  where
    small : (b : Bool) → cond b 1 0 ≤ 1
    small true = lit≤ tt
    small false = lit≤ tt

module _ (t a : List ℕ) (most N uploads opened n i : ℕ) (m : Mark) (o : Offset) where
  entries-end : n ≤ i → entry_scan most N uploads opened (n - i) m o t a ≡ cond (eqb opened uploads) (Some o) None
  unfolding entry_scan entries_ok rows_at uploads_among
  entries-end l =
      let z : n - i ≡ 0 = omega arith in
      rw (good-end Mark (entry_ok most N) entry_next t a n i m o l, past_end Mark (entry_ok most N) entry_next t a n i m o l, z, add-zero)

  pub entries-counted : n ≤ i → opened ≡ uploads → entry_scan most N uploads opened (n - i) m o t a ≡ Some o
  entries-counted l e = entries-end l ∙ rw (eq-eqb opened uploads e)

  pub entries-miscounted : n ≤ i → (opened ≡ uploads → ⊥) → entry_scan most N uploads opened (n - i) m o t a ≡ None
  entries-miscounted l e = entries-end l ∙ rw (ne_eqb opened uploads e)

  module _ (l : i < n) where
    pub entries-short : reading_of (drop o.at t) (drop o.base a) ≡ None → entry_scan most N uploads opened (n - i) m o t a ≡ None
    unfolding entry_scan entries_ok
    entries-short e = rw (good-short Mark (entry_ok most N) entry_next t a n i m o l e)

    module _ (bytes : AreBytes t) (h : Head) (f : reading_of (drop o.at t) (drop o.base a) ≡ Some h) where
      -- the row at o
      abbrev here : Row
      here = row_at (drop o.at t) (drop o.base a)

      opens-next : uploads_among (rows_at (n - i) (drop o.at t) (drop o.base a)) ≡ opens_one h + uploads_among (rows_at (n - (i + 1)) (drop (past o h).at t) (drop (past o h).base a))
      unfolding rows_at uploads_among opens_one
      opens-next =
          rw (
            more Mark (entry_ok most N) entry_next t a n i m o l,
            rest-tables t a o h f,
            rest-arena t a o h f,
            ap opens_one (head-of t a o h f bytes),
          )

      module _ (r : Bool) (e : r ≡ entry_rule most N m h (digest_part t o) (path_part t o h) (lengths_part t o h) (content_part a o h)) where
        judged : entry_ok most N m here ≡ r
        unfolding entry_ok
        judged =
            rw (head-of t a o h f bytes, digest-of t a o h f bytes, path-of t a o h f bytes, lengths-of t a o h f bytes, content-of t a o h f bytes)
            (sym e)

        pub entries-wrong : not r ≡ true → entry_scan most N uploads opened (n - i) m o t a ≡ None
        unfolding entry_scan entries_ok
        entries-wrong q = rw (good-wrong Mark (entry_ok most N) entry_next t a n i m o l h f (judged ∙ not-true r q))

        pub entries_next : not r ≡ false → (x : ℕ) → x ≡ opens_one h → (k : Mark) → k ≡ mark_after m h
            → entry_scan most N uploads opened (n - i) m o t a ≡ entry_scan most N uploads (opened + x) (n - (i + 1)) k (past o h) t a
        unfolding entry_scan entries_ok
        entries_next q x y k z =
            rw (
              good-next Mark (entry_ok most N) entry_next t a n i m o l h f (judged ∙ not-false r q),
              past_next Mark (entry_ok most N) entry_next t a n i m o l h f,
              opens-next,
              head-of t a o h f bytes,
              add_assoc opened,
              y,
              z,
            )

      -- a part's row is passed by its length, and opens no upload
      pub part-next : part_rule m h ≡ true → (k : Mark) → k ≡ mark_after m h
          → entry_scan most N uploads opened (n - i) m o t a
          ≡ entry_scan most N uploads opened (n - (i + 1)) k (record { at = o.at + head_length; base = o.base + h.size }) t a
      unfolding entry_rule opens_one
      part-next e k z =
          let p = part-is m h e in
          let no : eqb h.kind upload_kind ≡ false = ne_eqb h.kind upload_kind (λ q. omega (arith, p)) in
          let end : (past o h).at ≡ o.at + head_length = omega (arith, p) in
          entries_next true (rw (no, e)) refl 0 (rw no) k z ∙ rw (add-zero, end)
