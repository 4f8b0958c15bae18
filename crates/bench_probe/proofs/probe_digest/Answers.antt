-- `bench_probe::probe_digest` meets its contract: the digest's bytes are put. Assumes nothing.
use mathlib.Core.Path.{sym, ap, ◌∙◌}
use Rattle.base_md5.specs.Md5.{bytes_of}
use Rattle.base_md5.specs.DigestBytes.{digest_bytes-is}
use Rattle.bench_probe.specs.Probe.{changed}
use Rattle.bench_probe.proofs.probe_digest.Goals as goal

pub returns : goal.returns
returns c =
    let args = c.args in
    (c.put_digest.ensures.0, c.put_digest.ensures.1 ∙ ap (changed c.put_digest.result args.out.now) (ap bytes_of c.digest.ensures ∙ sym (digest_bytes-is args.«data».now)))
