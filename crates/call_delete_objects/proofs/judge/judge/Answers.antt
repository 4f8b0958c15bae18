-- `call_delete_objects::judge::judge` meets its contract: whole, then the checks of the list. Assumes nothing.
use mathlib.Core.Path.{◌≡◌}
use borrow.Author.Tests.{eq-eqb, ne_eqb, le-leb, lt-leb}
use Rattle.std.proofs.Common.{rules, Err}
use Rattle.call_types.specs.declared.Refusal.TheVariants.{NotAStore}
use Rattle.call_delete_objects.specs.Judged.{list_refusal}
use Rattle.call_delete_objects.proofs.Judging.{no_store, list-judged}
use Rattle.call_delete_objects.proofs.judge.judge.Goals as goal

pub returns-in_err-offsets_of : goal.returns-in_err-offsets_of
returns-in_err-offsets_of c =
    let told : c.from_residual.result ≡ Err NotAStore = search rules in
    rw told (no_store _ _ _ _ c.in_err-offsets_of.ensures.not_whole.1)

pub returns-then-count-gt-PLACES_MOST : goal.returns-then-count-gt-PLACES_MOST
unfolding list_refusal
returns-then-count-gt-PLACES_MOST c =
    list-judged _ _ _ _ (λ j. (c.type_inv.tables j).fits) c.in_ok-offsets_of.ensures.is_whole.0 8 (rw (lt-leb _ 1000 c.if-count-gt-PLACES_MOST.true))

pub returns-then-left-ne0 : goal.returns-then-left-ne0
unfolding list_refusal
returns-then-left-ne0 c =
    list-judged _ _ _ _ (λ j. (c.type_inv.tables j).fits) c.in_ok-offsets_of.ensures.is_whole.0 2 (rw (le-leb _ 1000 c.if-count-gt-PLACES_MOST.false, ne_eqb _ 0 c.if-left-ne0.true))

pub returns-then-short : goal.returns-then-short
unfolding list_refusal
returns-then-short c =
    list-judged _ _ _ _ (λ j. (c.type_inv.tables j).fits) c.in_ok-offsets_of.ensures.is_whole.0 7 (rw (le-leb _ 1000 c.if-count-gt-PLACES_MOST.false, eq-eqb _ 0 c.if-left-ne0.false, lt-leb _ _ c.if-short.true))

pub returns : goal.returns
unfolding list_refusal
returns c =
    list-judged _ _ _ _ (λ j. (c.type_inv.tables j).fits) c.in_ok-offsets_of.ensures.is_whole.0 0 (rw (le-leb _ 1000 c.if-count-gt-PLACES_MOST.false, eq-eqb _ 0 c.if-left-ne0.false, le-leb _ _ c.if-short.false))
