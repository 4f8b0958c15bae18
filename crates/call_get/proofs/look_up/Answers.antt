-- `call_get::look_up` meets its contract: each answer by the tests that led to it. Assumes nothing.
use mathlib.Core.Path.{ap, ◌≡◌}
use mathlib.Core.Bool.{not, true}
use borrow.Author.Tests.{not-true, not-false}
use Rattle.machine.proofs.Tests.{said-no, said-yes}
use Rattle.machine.specs.Names.{request_path_ok}
use Rattle.call_get.proofs.Lookups.{is-root, is-bad, is-absent, is-object}
use Rattle.call_get.proofs.look_up.Goals as goal

pub returns-then-path-eq0 : goal.returns-then-path-eq0
returns-then-path-eq0 c = is-root _ _ c.if-path-eq0.true

pub returns-then-not-request_path_ok : goal.returns-then-not-request_path_ok
returns-then-not-request_path_ok c = is-bad _ _ c.if-path-eq0.false (said-no c.request_path_ok.ensures (ap not c.if-not-request_path_ok.true))

pub returns-then-not-place : goal.returns-then-not-place
returns-then-not-place c =
    let ok : request_path_ok c.args.path.now ≡ true = said-yes c.request_path_ok.ensures (ap not c.if-not-request_path_ok.false) in
    is-absent _ _ c.if-path-eq0.false (ok) c.find_object-place.result c.find_object-place.ensures (not-true _ c.if-not-place.true)

pub returns : goal.returns
returns c =
    let ok : request_path_ok c.args.path.now ≡ true = said-yes c.request_path_ok.ensures (ap not c.if-not-request_path_ok.false) in
    is-object _ _ c.if-path-eq0.false (ok) c.find_object-place.result c.find_object-place.ensures (not-false _ c.if-not-place.false)
