-- `bench_probe::probe_digest_bytes` meets its contract: the bytes of a digest are put. Assumes nothing.
use Rattle.bench_probe.proofs.probe_digest_bytes.Goals as goal

pub returns : goal.returns
returns c = (c.put_digest.ensures.0, (c.digest.result, c.put_digest.ensures.1))
