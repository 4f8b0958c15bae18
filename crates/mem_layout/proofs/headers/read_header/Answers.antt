-- `mem_layout::headers::read_header` meets its contract: each number is read at its place. Assumes nothing.
use mathlib.Core.Path.{refl, ◌∙◌}
use lib.Dec.{lit<}
use Rattle.mem_row.proofs.FieldLaws.{number_at}
use Rattle.mem_layout.specs.Header.{header_widths, header_at}
use Rattle.mem_layout.proofs.headers.read_header.Goals as goal

pub returns : goal.returns
unfolding header_at
returns c =
    let t = c.args.t.now in
    λ i.
    record {
      arena = (c.get_u32.ensures ∙ number_at header_widths 0 0 0 t (lit< tt) refl) i;
      next = (c.get_u64.ensures ∙ number_at header_widths 1 0 4 t (lit< tt) refl) i;
      objects = (c.get_u16.ensures ∙ number_at header_widths 2 0 12 t (lit< tt) refl) i;
      uploads = (c.get_u16-2.ensures ∙ number_at header_widths 3 0 14 t (lit< tt) refl) i;
      parts = (c.get_u16-3.ensures ∙ number_at header_widths 4 0 16 t (lit< tt) refl) i;
    }
