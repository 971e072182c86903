-- A payload passes the check of an index block exactly if it is the payload of one.
use Rattle.std.proofs.Common.{◌≡◌, ℕ, ◌<◌, ◌≤◌, ◌^◌, List, length, refl, arith, sym, ap, ◌∙◌, subst, Bool, true, false, cond}
use Rattle.std.specs.List.{AllByRecursion}
use Rattle.std.proofs.lemmas.List.{map-id}
use Rattle.sst_base.specs.Bytes.{IsBytes}
use Rattle.sst_block_core.specs.Trailer.{trailer_in}
use Rattle.sst_block_core.specs.Body.{IsInterval}
use Rattle.sst_block_core.specs.Buckets.{buckets}
use Rattle.sst_block_core.specs.Kind.{IsOrdered}
use Rattle.sst_block_core.specs.Payload.{IsBlock, payload, payload_with}
use Rattle.sst_block_core.specs.Stages.{items_in, Passes}
use Rattle.sst_block_core.specs.Handles.{Handle, IsHandle, EndFits, handles, no_hash, index_payload, IndexPasses, IsIndexBlock}
use Rattle.sst_block_core.specs.HandleLaws.{IsKind-handles}
use Rattle.sst_block_core.specs.CanonicalLaws.{block_from, passes_from}

-- a payload that passes is an index block of the handles that are decoded from it
pub index_block_from : (r : ℕ) (p : List ℕ) → IsBytes p → IndexPasses r p → IsIndexBlock p (items_in handles p) r
index_block_from r p b pass =
    let none = pass.parts.no_buckets in
    let all : Passes handles no_hash p = record {
      encoded = record {
        trailer = pass.trailer;
        parts = pass.parts.parts;
        forms = pass.forms;
        pointers = pass.pointers;
        buckets = λ q h. absurd (omega (arith, none, h));
      };
      order = pass.order;
    } in
    let found = block_from handles IsHandle IsKind-handles no_hash p b all in
    record {
      block = subst (λ i. IsBlock handles IsHandle no_hash p (items_in handles p) i 0) pass.parts.interval
          (subst (λ n. IsBlock handles IsHandle no_hash p (items_in handles p) (trailer_in p).interval n) none found);
      ends = pass.ends;
    }

stored_none : (few : Bool) → ◌≡◌ {A = ℕ} (cond few 0 0) 0
stored_none true = refl
stored_none false = refl

-- an index block passes, and its handles are those that are decoded
pub index_passes : (r : ℕ) (p : List ℕ) (items : List Handle) → length p < 2 ^ 32 → IsIndexBlock p items r → IndexPasses r p × (items_in handles p ≡ items)
index_passes r p items room index =
    let all = passes_from handles IsHandle IsKind-handles no_hash p items r 0 index.block room in
    let same : items_in handles p ≡ items = all.1 ∙ map-id items in (
      record {
        trailer = all.0.encoded.trailer;
        parts = record { parts = all.0.encoded.parts; interval = all.2; no_buckets = all.3 ∙ stored_none _ };
        forms = all.0.encoded.forms;
        ends = subst (AllByRecursion EndFits) (sym same) index.ends;
        order = all.0.order;
        pointers = all.0.encoded.pointers;
      },
      same,
    )

-- a payload without buckets is the same for every hash function
pub no_buckets_hashed : (hash : List ℕ → ℕ) (r : ℕ) (items : List Handle) → payload handles hash r items 0 ≡ index_payload items r
unfolding buckets
no_buckets_hashed hash r items =
    ap (payload_with handles hash r items) (stored_none _) ∙ sym (ap (payload_with handles no_hash r items) (stored_none _))

-- what the encoder writes of such handles is an index block of them
pub written_block : (p : List ℕ) (items : List Handle) (r : ℕ) → IsInterval r → 1 ≤ length items → IsOrdered handles items → AllByRecursion EndFits items → AllByRecursion IsHandle items
    → p ≡ index_payload items r → IsIndexBlock p items r
written_block p items r interval some ordered ends are_valid whole = record {
  block = record {
    encoding = record { some = some; interval = interval; bucket_count = omega arith; are_valid = are_valid; whole = whole };
    ordered = ordered;
  };
  ends = ends;
}

-- the handles of an index block are ordered as decoded
pub ordered_handles : (p : List ℕ) → length p < 2 ^ 32 → ((items : List Handle) × (r : ℕ) × IsIndexBlock p items r) → IsOrdered handles (items_in handles p)
ordered_handles p room some = (passes_from handles IsHandle IsKind-handles no_hash p some.0 some.1 0 some.2.block room).0.order

-- so a payload that is an index block is that of the handles and the interval that are decoded from it
pub read_block : (p : List ℕ) → length p < 2 ^ 32 → ((items : List Handle) × (r : ℕ) × IsIndexBlock p items r) → IsIndexBlock p (items_in handles p) (trailer_in p).interval
read_block p room some =
    let passes = index_passes some.1 p some.0 room some.2 in
    subst (λ r. IsIndexBlock p (items_in handles p) r) (sym passes.0.parts.interval) (subst (λ items. IsIndexBlock p items some.1) (sym passes.1) some.2)
