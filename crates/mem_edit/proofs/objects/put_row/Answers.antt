-- `mem_edit::objects::put_row` meets its contract: the row is written, and the header. Assumes nothing.
use mathlib.Core.Path.{ap, ◌∙◌}
use native.Mathlib.Omega.{arith}
use Prim.Native.Nat.{◌+◌, ◌-◌}
use Rattle.base_buffer.specs.Buffer.{spliced}
use Rattle.base_md5.specs.Md5.{bytes_of}
use Rattle.mem_row.specs.Row.{row_bytes}
use Rattle.mem_layout.specs.declared.Header.{Header}
use Rattle.mem_layout.specs.Header.{headed}
use Rattle.mem_edit.specs.Objects.{object_head, with_objects}
use Rattle.mem_edit.proofs.objects.put_row.Goals as goal

pub overflow_add-after : goal.overflow_add-after
overflow_add-after c = omega (arith, ap (λ (x : Header). x.objects) c.read_header-header.ensures)

pub overflow_sub-after : goal.overflow_sub-after
overflow_sub-after c = omega (arith, ap (λ (x : Header). x.objects) c.read_header-header.ensures)

pub returns : goal.returns
returns c =
    let h = c.read_header-header in
    let s = c.args in
    c.replace_rows.ensures
    ∙ ap (λ (x : Header). headed (spliced s.tables.now s.at s.old.length s.used (row_bytes (object_head s.stamp s.kind s.count s.path.now s.lengths.now s.size) (bytes_of s.digest) s.path.now s.lengths.now)) (with_objects x (x.objects + 1 - s.old.rows))) h.ensures
