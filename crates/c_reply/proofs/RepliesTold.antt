-- What `tell` writes is the reply of each call. Assumes nothing.
use Prim.Native.Nat.{ℕ}
use mathlib.Core.Path.{◌≡◌}
use mathlib.Core.List.{[]}
use Rattle.std.specs.Prelude.{Result, Ok, Err}
use Rattle.call_types.specs.declared.Etag.{Etag}
use Rattle.call_types.specs.declared.Metadata.{Metadata}
use Rattle.call_types.specs.declared.UploadNumber.{UploadNumber}
use Rattle.call_types.specs.declared.Counts.{Counts}
use Rattle.call_types.specs.declared.Sweep.{Sweep}
use Rattle.call_types.specs.declared.Refusal.{Refusal}
use Rattle.machine.specs.Names.{Bytes}
use Rattle.machine.specs.Calls.{Answer, etag, number, counts, swept, no_buffers, Reply}
use Rattle.call_contract.specs.Answers.{etag_of, metadata_of, get_reply, part_reply, initiate_reply, list_reply, sweep_reply}
use Rattle.c_reply.specs.Reply.{reply_over}
use Rattle.c_reply.specs.Fields.{told_reply}

-- n is the number of a reply, and o' what its answer leaves of o
abbrev pub Replied : Reply → (n : ℕ) (o o' : Bytes) → Type 0
Replied r n o o' = (n ≡ r.result) × (o' ≡ reply_over r.answer o)

module _ {n : ℕ} (o : Bytes) {o' : Bytes} where
  pub as-got : (a : Result Metadata Refusal) → n ≡ (told_reply metadata_of a).result → o' ≡ reply_over (told_reply metadata_of a).answer o → Replied (get_reply a no_buffers) n o o'
  as-got (Ok x) e h = (e, h)
  as-got (Err r) e h = (e, h)

  pub as-stored : (a : Result Etag Refusal) → n ≡ (told_reply (λ x. etag (etag_of x)) a).result → o' ≡ reply_over (told_reply (λ x. etag (etag_of x)) a).answer o → Replied (part_reply a) n o o'
  as-stored (Ok x) e h = (e, h)
  as-stored (Err r) e h = (e, h)

  pub as-opened : (a : Result UploadNumber Refusal) → n ≡ (told_reply (λ x. number x.0) a).result → o' ≡ reply_over (told_reply (λ x. number x.0) a).answer o → Replied (initiate_reply a) n o o'
  as-opened (Ok x) e h = (e, h)
  as-opened (Err r) e h = (e, h)

  pub as-listed : (a : Result Counts Refusal) → n ≡ (told_reply (λ x. counts x.records x.bytes) a).result → o' ≡ reply_over (told_reply (λ x. counts x.records x.bytes) a).answer o → Replied (list_reply a []) n o o'
  as-listed (Ok x) e h = (e, h)
  as-listed (Err r) e h = (e, h)

  pub as-swept : (a : Result Sweep Refusal) → n ≡ (told_reply (λ x. swept x.count x.more) a).result → o' ≡ reply_over (told_reply (λ x. swept x.count x.more) a).answer o → Replied (sweep_reply a) n o o'
  as-swept (Ok x) e h = (e, h)
  as-swept (Err r) e h = (e, h)
