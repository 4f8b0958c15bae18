-- `bench_probe::probe_compare` meets its contract: each arm has its number. Assumes nothing.
use mathlib.Core.Path.{sym, ap, ◌∙◌}
use Rattle.bench_probe.specs.Probe.{place}
use Rattle.bench_probe.proofs.probe_compare.Goals as goal

pub returns-in-Less : goal.returns-in-Less
returns-in-Less c = ap place (sym c.in-Less.is ∙ c.compare-o.ensures)

pub returns-in-Equal : goal.returns-in-Equal
returns-in-Equal c = ap place (sym c.in-Equal.is ∙ c.compare-o.ensures)

pub returns-in-Greater : goal.returns-in-Greater
returns-in-Greater c = ap place (sym c.in-Greater.is ∙ c.compare-o.ensures)
