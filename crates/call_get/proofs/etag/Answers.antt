-- `call_get::etag` meets its contract: the digest is read by its words, and the kind picks the etag. Assumes nothing.
use mathlib.Core.Path.{◌≡◌}
use lib.ListN.{drop}
use Rattle.base_md5.specs.Md5.{bytes_of}
use Rattle.mem_row.specs.Row.{digest_at}
use Rattle.call_get.proofs.Stored.{digest-at, plain-etag, joined-etag}
use Rattle.call_get.proofs.etag.Goals as goal

pub returns-then-kind-eq-PLAIN_KIND : goal.returns-then-kind-eq-PLAIN_KIND
returns-then-kind-eq-PLAIN_KIND c =
    let a = c.args in
    let digest : bytes_of c.get-digest.result ≡ digest_at (drop a.at a.tables.now) = digest-at a.tables.now a.at c.get-digest.result (λ j. (c.type_inv.tables j).fits) c.requires c.get-digest.ensures in
    plain-etag a.kind a.count _ _ digest c.if-kind-eq-PLAIN_KIND.true

pub returns-else-kind-eq-PLAIN_KIND : goal.returns-else-kind-eq-PLAIN_KIND
returns-else-kind-eq-PLAIN_KIND c =
    let a = c.args in
    let digest : bytes_of c.get-digest.result ≡ digest_at (drop a.at a.tables.now) = digest-at a.tables.now a.at c.get-digest.result (λ j. (c.type_inv.tables j).fits) c.requires c.get-digest.ensures in
    joined-etag a.kind a.count _ _ digest c.if-kind-eq-PLAIN_KIND.false
