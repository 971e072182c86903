use Rattle.std.proofs.Common.{refl, arith, inl, ◌≡◌, ◌<◌, ℕ, zero, suc}
use Rattle.sst_base.specs.Varint.{varint, varint_within, varint_up_to, varint_at}
use Rattle.sst_base.specs.Reading.{number_at, length_prefixed_at}
use Rattle.sst_block_core.specs.Body.{body, items_at}
use Rattle.sst_block_core.specs.Trailer.{trailer_from}
use Rattle.sst_block_core.specs.Stages.{items_by}
use Rattle.sst_block_core.specs.Entries.{full, full_at, truncated, truncated_form_at, truncated_at}
use Rattle.sst_tests.proofs.blocks.vectors.damaged_bucket.Goals as goal

two : (P : ℕ → Type 0) → P 0 → P 1 → (j : ℕ) → j < 2 → P j
two P p q zero h = p
two P p q (suc zero) h = q
two P p q (suc (suc j)) h = absurd (omega arith)

pub returns : goal.returns
unfolding trailer_from items_by items_at full_at truncated_at truncated_form_at number_at length_prefixed_at varint_at varint_up_to varint varint_within body full truncated
returns c = record {
  trailer = omega arith;
  parts = record {
    interval = omega arith;
    width = inl refl;
    some = omega arith;
    heads = refl;
    reserved_bytes = refl;
    offset = omega arith;
    marker = refl;
    end = refl;
    no_hash = λ e. absurd (omega (arith, e));
    few_heads = λ _. omega arith;
    hash_offset = λ _. refl;
  };
  forms = refl;
  order = ((λ e. cc), ((λ e. cc), tt));
  pointers = record { offsets = two _ refl refl; width = refl };
  fails = λ s. let h : ◌≡◌ {A = ℕ} 0 254 = s 2 (omega arith) in omega (arith, h);
}
