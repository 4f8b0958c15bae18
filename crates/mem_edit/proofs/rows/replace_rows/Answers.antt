-- `mem_edit::rows::replace_rows` meets its contract: the row is written to a local array, whose front is spliced in. Assumes nothing.
use Prim.Native.Nat.{ℕ, ◌+◌}
use mathlib.Core.Path.{◌≡◌, refl, sym, ap, ◌∙◌}
use mathlib.Core.List.{List}
use lib.ListN.{length, take}
use Rattle.base_md5.specs.Md5.{bytes_of}
use Rattle.base_md5.specs.Md5Laws.{length-bytes_of}
use Rattle.base_buffer.specs.Buffer.{spliced}
use Rattle.mem_layout.specs.Header.{headed}
use Rattle.mem_row.specs.Row.{row_bytes, head_length}
use Rattle.mem_row.proofs.RowFields.{row-front, length-row_bytes}
use native.Mathlib.Omega.{arith}
use Rattle.mem_edit.proofs.rows.replace_rows.Goals as goal

pub slice_bounds-splice-end : goal.slice_bounds-splice-end
slice_bounds-splice-end c =
    let path : List ℕ = c.args.path.now in
    let lengths : List ℕ = c.args.lengths.now in
    let digest : List ℕ = bytes_of c.args.digest in
    let m : ℕ = head_length + length path + length lengths in
    let front : take m c.write_row.new.out ≡ row_bytes c.args.h digest path lengths = row-front _ c.write_row.new.out digest path lengths c.args.h m (length-bytes_of c.args.digest) refl c.write_row.ensures in
    let front_length : length (take m c.write_row.new.out) ≡ m = ap length front ∙ length-row_bytes c.args.h digest path lengths (length-bytes_of c.args.digest) in
    sym (front_length)

pub splice-requires : goal.splice-requires
splice-requires c =
    let path : List ℕ = c.args.path.now in
    let lengths : List ℕ = c.args.lengths.now in
    let digest : List ℕ = bytes_of c.args.digest in
    let m : ℕ = head_length + length path + length lengths in
    let front : take m c.write_row.new.out ≡ row_bytes c.args.h digest path lengths = row-front _ c.write_row.new.out digest path lengths c.args.h m (length-bytes_of c.args.digest) refl c.write_row.ensures in
    let front_length : length (take m c.write_row.new.out) ≡ m = ap length front ∙ length-row_bytes c.args.h digest path lengths (length-bytes_of c.args.digest) in
    let p = c.requires in
    (p.within, (p.inside, omega (arith, front_length, p.room)))

pub returns : goal.returns
returns c =
    let path : List ℕ = c.args.path.now in
    let lengths : List ℕ = c.args.lengths.now in
    let digest : List ℕ = bytes_of c.args.digest in
    let m : ℕ = head_length + length path + length lengths in
    let front : take m c.write_row.new.out ≡ row_bytes c.args.h digest path lengths = row-front _ c.write_row.new.out digest path lengths c.args.h m (length-bytes_of c.args.digest) refl c.write_row.ensures in
    let a = c.args in
    c.write_header.ensures
    ∙ ap (λ (t : List ℕ). headed t a.header) (c.splice.ensures ∙ ap (λ (r : List ℕ). spliced a.tables.now a.at a.n a.used r) (front))
