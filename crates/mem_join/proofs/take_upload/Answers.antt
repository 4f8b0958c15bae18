-- `mem_join::take_upload` meets its contract: the parts are put in order, and then the upload is cut out. Assumes nothing.
use Prim.Native.Nat.{ℕ, ◌≤◌}
use mathlib.Core.Path.{◌≡◌, ◌∙◌}
use mathlib.Core.List.{List}
use native.Mathlib.Omega.{arith}
use lib.ListN.{length}
use Rattle.machine.specs.State.{State}
use Rattle.mem_layout.specs.declared.Header.{Header}
use Rattle.mem_layout.specs.Rules.{parts_most}
use Rattle.mem_layout.specs.Memory.{state_of, Stands}
use Rattle.mem_layout.proofs.StandsLaws.{header-back}
use Rattle.mem_layout.proofs.WholeLaws.{whole-stands}
use Rattle.mem_layout.specs.Header.{header_of, header_at}
use Rattle.machine.specs.PartLists.{part_list}
use Rattle.mem_join_order.specs.Region.{Arrangeable}
use Rattle.mem_join.specs.declared.Bounds.{Bounds}
use Rattle.mem_join.specs.Bounds.{bounds_of}
use Rattle.mem_join.specs.Joined.{Listed}
use Rattle.mem_join.proofs.Taking.{few, listed_at, cut_inside, end-left, some-upload, taken}
use Rattle.mem_join.proofs.take_upload.Goals as goal

pub overflow_cast-count : goal.overflow_cast-count
overflow_cast-count c =
    let t : List ℕ = c.args.tables.now in
    let a : List ℕ = c.args.arena.now in
    let s : State = state_of t a in
    let u : ℕ = c.args.upload in
    let list : List ℕ = c.args.list.now in
    let b : Bounds = c.args.b in
    let stands : Stands t a s = whole-stands t a (λ j. (c.slice_known-1.given j).fits) c.requires.0 in
    let k : Listed s u (part_list list) = c.requires.1 in
    let header_is : (h : Header) → h ≡ header_at t → h ≡ header_of (length a) s = λ h e. e ∙ header-back t a s stands in
    let told : (l : Listed s u (part_list list)) → b ≡ bounds_of s u l.upload = λ l. (c.requires.2 l.upload l.found).0 in
    let some : (h : Header) → h ≡ header_at t → (1 ≤ h.uploads) × (b.count ≤ h.parts) × (b.count ≤ parts_most) = λ h e. some-upload t a s stands u k.upload k.found list k.listed k.fits b (told k) h (header_is h e) in
    omega (arith, (some (header_at (t)) (λ i. header_at (t))).2)

pub read_header-h-requires : goal.read_header-h-requires
read_header-h-requires c =
    let t : List ℕ = c.args.tables.now in
    let a : List ℕ = c.args.arena.now in
    let s : State = state_of t a in
    let stands : Stands t a s = whole-stands t a (λ j. (c.slice_known-1.given j).fits) c.requires.0 in
    let z = (stands).size in omega arith

pub overflow_sub-header : goal.overflow_sub-header
overflow_sub-header c =
    let t : List ℕ = c.args.tables.now in
    let a : List ℕ = c.args.arena.now in
    let s : State = state_of t a in
    let u : ℕ = c.args.upload in
    let list : List ℕ = c.args.list.now in
    let b : Bounds = c.args.b in
    let stands : Stands t a s = whole-stands t a (λ j. (c.slice_known-1.given j).fits) c.requires.0 in
    let k : Listed s u (part_list list) = c.requires.1 in
    let header_is : (h : Header) → h ≡ header_at t → h ≡ header_of (length a) s = λ h e. e ∙ header-back t a s stands in
    let told : (l : Listed s u (part_list list)) → b ≡ bounds_of s u l.upload = λ l. (c.requires.2 l.upload l.found).0 in
    let some : (h : Header) → h ≡ header_at t → (1 ≤ h.uploads) × (b.count ≤ h.parts) × (b.count ≤ parts_most) = λ h e. some-upload t a s stands u k.upload k.found list k.listed k.fits b (told k) h (header_is h e) in
    omega (arith, (some c.read_header-h.result c.read_header-h.ensures).0)

pub overflow_sub-header-2 : goal.overflow_sub-header-2
overflow_sub-header-2 c =
    let t : List ℕ = c.args.tables.now in
    let a : List ℕ = c.args.arena.now in
    let s : State = state_of t a in
    let u : ℕ = c.args.upload in
    let list : List ℕ = c.args.list.now in
    let b : Bounds = c.args.b in
    let stands : Stands t a s = whole-stands t a (λ j. (c.slice_known-1.given j).fits) c.requires.0 in
    let k : Listed s u (part_list list) = c.requires.1 in
    let header_is : (h : Header) → h ≡ header_at t → h ≡ header_of (length a) s = λ h e. e ∙ header-back t a s stands in
    let told : (l : Listed s u (part_list list)) → b ≡ bounds_of s u l.upload = λ l. (c.requires.2 l.upload l.found).0 in
    let some : (h : Header) → h ≡ header_at t → (1 ≤ h.uploads) × (b.count ≤ h.parts) × (b.count ≤ parts_most) = λ h e. some-upload t a s stands u k.upload k.found list k.listed k.fits b (told k) h (header_is h e) in
    omega (arith, (some c.read_header-h.result c.read_header-h.ensures).1)

pub arrange-digest-requires : goal.arrange-digest-requires
arrange-digest-requires c =
    let t : List ℕ = c.args.tables.now in
    let a : List ℕ = c.args.arena.now in
    let s : State = state_of t a in
    let u : ℕ = c.args.upload in
    let list : List ℕ = c.args.list.now in
    let b : Bounds = c.args.b in
    let stands : Stands t a s = whole-stands t a (λ j. (c.slice_known-1.given j).fits) c.requires.0 in
    let k : Listed s u (part_list list) = c.requires.1 in
    let told : (l : Listed s u (part_list list)) → b ≡ bounds_of s u l.upload = λ l. (c.requires.2 l.upload l.found).0 in
    let region : Listed s u (part_list list) → Arrangeable t a b.first b.parts list c.args.ascends = λ l. record {
      listed_at = listed_at t a s stands u l.upload l.found list l.listed l.fits b (told l);
      in_order = (c.requires.2 l.upload l.found).1;
      few = few t a s stands u l.upload l.found list l.listed l.fits b (told l);
    } in
    region (k)

pub cut-end-requires : goal.cut-end-requires
cut-end-requires c =
    let t : List ℕ = c.args.tables.now in
    let a : List ℕ = c.args.arena.now in
    let s : State = state_of t a in
    let u : ℕ = c.args.upload in
    let list : List ℕ = c.args.list.now in
    let b : Bounds = c.args.b in
    let stands : Stands t a s = whole-stands t a (λ j. (c.slice_known-1.given j).fits) c.requires.0 in
    let k : Listed s u (part_list list) = c.requires.1 in
    let told : (l : Listed s u (part_list list)) → b ≡ bounds_of s u l.upload = λ l. (c.requires.2 l.upload l.found).0 in
    let l = k in
    let kept : length c.arrange-digest.new.tables ≡ length (t) = omega (arith, c.arrange-digest.auto) in
    let kept' : length c.arrange-digest.new.arena ≡ length (a) = omega (arith, c.arrange-digest.auto) in
    cut_inside (t) (a) (s) (stands) (u) l.upload l.found (list) l.listed l.fits (b) (told l) c.arrange-digest.new.tables c.arrange-digest.new.arena kept kept'

pub returns : goal.returns
returns c =
    let t : List ℕ = c.args.tables.now in
    let a : List ℕ = c.args.arena.now in
    let s : State = state_of t a in
    let u : ℕ = c.args.upload in
    let list : List ℕ = c.args.list.now in
    let b : Bounds = c.args.b in
    let stands : Stands t a s = whole-stands t a (λ j. (c.slice_known-1.given j).fits) c.requires.0 in
    let header_is : (h : Header) → h ≡ header_at t → h ≡ header_of (length a) s = λ h e. e ∙ header-back t a s stands in
    let told : (l : Listed s u (part_list list)) → b ≡ bounds_of s u l.upload = λ l. (c.requires.2 l.upload l.found).0 in
    let region : Listed s u (part_list list) → Arrangeable t a b.first b.parts list c.args.ascends = λ l. record {
      listed_at = listed_at t a s stands u l.upload l.found list l.listed l.fits b (told l);
      in_order = (c.requires.2 l.upload l.found).1;
      few = few t a s stands u l.upload l.found list l.listed l.fits b (told l);
    } in
    let kept : length c.arrange-digest.new.tables ≡ length (t) = omega (arith, c.arrange-digest.auto) in
    let kept₂ : length c.cut-end.new.tables ≡ length (t) = omega (arith, c.arrange-digest.auto, c.cut-end.auto) in
    let kept' : length c.cut-end.new.arena ≡ length (a) = omega (arith, c.arrange-digest.auto, c.cut-end.auto) in
    λ l.
    let is = told l in
    let z = taken (t) (a) (s) (stands) (u) l.upload l.found (list) l.listed l.fits (b) is c.arrange-digest.new.tables c.arrange-digest.new.arena c.cut-end.new.tables c.cut-end.new.arena
    c.arrange-digest.result c.read_header-h.result (c.arrange-digest.ensures (region l)) kept (header_is c.read_header-h.result c.read_header-h.ensures) c.cut-end.ensures.0 c.cut-end.ensures.1 kept₂ kept' in
    record { stands = z.0; content = z.1; size_is = z.2; count-is = z.3; digest-is = z.4; end_is = c.cut-end.ensures.2 ∙ end-left (t) (a) (s) (stands) (u) l.upload l.found (list) l.listed l.fits (b) is }
