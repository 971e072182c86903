use Rattle.std.proofs.Common.{refl, arith, inl, ◌≡◌, ℕ}
use Rattle.sst_base.specs.Varint.{varint_up_to, varint_at}
use Rattle.sst_base.specs.Reading.{number_at, length_prefixed_at}
use Rattle.sst_block_core.specs.Body.{body, items_at}
use Rattle.sst_block_core.specs.Trailer.{trailer_from}
use Rattle.sst_block_core.specs.Stages.{items_by}
use Rattle.sst_block_core.specs.Entries.{full_at, truncated_form_at, truncated_at}
use Rattle.sst_tests.proofs.blocks.vectors.damaged_pointer.Goals as goal

pub returns : goal.returns
unfolding body trailer_from items_by items_at full_at truncated_at truncated_form_at number_at length_prefixed_at varint_at varint_up_to
returns c = record {
  trailer = omega arith;
  parts = record {
    interval = omega arith;
    width = inl refl;
    some = omega arith;
    heads = refl;
    reserved_bytes = refl;
    offset = omega arith;
    marker = refl;
    end = refl;
    no_hash = λ _. refl;
    few_heads = λ h. absurd (omega (arith, h));
    hash_offset = λ h. absurd (omega (arith, h));
  };
  forms = refl;
  order = tt;
  fails = λ s. let h : ◌≡◌ {A = ℕ} 1 0 = s.offsets 0 (omega arith) in omega (arith, h);
}
