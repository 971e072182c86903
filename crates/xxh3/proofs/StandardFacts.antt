-- Hashes that xxHash 0.8 gives, so that a wrong constant or step in the definition does not check.
use Rattle.std.proofs.Common.{◌≡◌, replicate, refl}
use Rattle.xxh3.specs.Xxh3.{word, half_word, pair, folded_product, avalanche, old_avalanche, mixed, few_bytes, hash64_to_3, hash64_to_8, hash64_to_16, ends_sum, hash64_to_128, run_sum, hash64_to_240, words, with_stripe, scrambled, with_stripes, message_sums, merged_sums, hash64_long, hash64_by, hash128_of_none, hash128_to_3, hash128_to_8, hash128_to_16, with_both, finished, ends_sums, hash128_to_128, run_sums, hash128_to_240, hash128_long, hash128_by, default_secret, xxh3_64, xxh3_128}

pub vector64_none : xxh3_64 (replicate 0 97) ≡ 0x2d06800538d394c2
unfolding word half_word pair folded_product avalanche old_avalanche mixed few_bytes hash64_to_3 hash64_to_8 hash64_to_16 ends_sum hash64_to_128 run_sum hash64_to_240 words with_stripe scrambled with_stripes message_sums merged_sums hash64_long hash64_by hash128_of_none hash128_to_3 hash128_to_8 hash128_to_16 with_both finished ends_sums hash128_to_128 run_sums hash128_to_240 hash128_long hash128_by default_secret xxh3_64 xxh3_128
vector64_none = refl

pub vector128_none : xxh3_128 (replicate 0 97) ≡ 0x99aa06d3014798d86001c324468d497f
unfolding word half_word pair folded_product avalanche old_avalanche mixed few_bytes hash64_to_3 hash64_to_8 hash64_to_16 ends_sum hash64_to_128 run_sum hash64_to_240 words with_stripe scrambled with_stripes message_sums merged_sums hash64_long hash64_by hash128_of_none hash128_to_3 hash128_to_8 hash128_to_16 with_both finished ends_sums hash128_to_128 run_sums hash128_to_240 hash128_long hash128_by default_secret xxh3_64 xxh3_128
vector128_none = refl

pub vector64_two : xxh3_64 (replicate 2 97) ≡ 0x369242a646a19333
unfolding word half_word pair folded_product avalanche old_avalanche mixed few_bytes hash64_to_3 hash64_to_8 hash64_to_16 ends_sum hash64_to_128 run_sum hash64_to_240 words with_stripe scrambled with_stripes message_sums merged_sums hash64_long hash64_by hash128_of_none hash128_to_3 hash128_to_8 hash128_to_16 with_both finished ends_sums hash128_to_128 run_sums hash128_to_240 hash128_long hash128_by default_secret xxh3_64 xxh3_128
vector64_two = refl

pub vector128_two : xxh3_128 (replicate 2 97) ≡ 0xb9fe94d346d39b20369242a646a19333
unfolding word half_word pair folded_product avalanche old_avalanche mixed few_bytes hash64_to_3 hash64_to_8 hash64_to_16 ends_sum hash64_to_128 run_sum hash64_to_240 words with_stripe scrambled with_stripes message_sums merged_sums hash64_long hash64_by hash128_of_none hash128_to_3 hash128_to_8 hash128_to_16 with_both finished ends_sums hash128_to_128 run_sums hash128_to_240 hash128_long hash128_by default_secret xxh3_64 xxh3_128
vector128_two = refl

pub vector64_seven : xxh3_64 (replicate 7 97) ≡ 0x2a29a3f66d424793
unfolding word half_word pair folded_product avalanche old_avalanche mixed few_bytes hash64_to_3 hash64_to_8 hash64_to_16 ends_sum hash64_to_128 run_sum hash64_to_240 words with_stripe scrambled with_stripes message_sums merged_sums hash64_long hash64_by hash128_of_none hash128_to_3 hash128_to_8 hash128_to_16 with_both finished ends_sums hash128_to_128 run_sums hash128_to_240 hash128_long hash128_by default_secret xxh3_64 xxh3_128
vector64_seven = refl

pub vector128_seven : xxh3_128 (replicate 7 97) ≡ 0xd340f1b0e6d5da8461f8d09440a1ff1c
unfolding word half_word pair folded_product avalanche old_avalanche mixed few_bytes hash64_to_3 hash64_to_8 hash64_to_16 ends_sum hash64_to_128 run_sum hash64_to_240 words with_stripe scrambled with_stripes message_sums merged_sums hash64_long hash64_by hash128_of_none hash128_to_3 hash128_to_8 hash128_to_16 with_both finished ends_sums hash128_to_128 run_sums hash128_to_240 hash128_long hash128_by default_secret xxh3_64 xxh3_128
vector128_seven = refl

pub vector64_twelve : xxh3_64 (replicate 12 97) ≡ 0x6d13ee7fa0a78768
unfolding word half_word pair folded_product avalanche old_avalanche mixed few_bytes hash64_to_3 hash64_to_8 hash64_to_16 ends_sum hash64_to_128 run_sum hash64_to_240 words with_stripe scrambled with_stripes message_sums merged_sums hash64_long hash64_by hash128_of_none hash128_to_3 hash128_to_8 hash128_to_16 with_both finished ends_sums hash128_to_128 run_sums hash128_to_240 hash128_long hash128_by default_secret xxh3_64 xxh3_128
vector64_twelve = refl

pub vector128_twelve : xxh3_128 (replicate 12 97) ≡ 0x32fcb4da5bee96bce45195d0424c4818
unfolding word half_word pair folded_product avalanche old_avalanche mixed few_bytes hash64_to_3 hash64_to_8 hash64_to_16 ends_sum hash64_to_128 run_sum hash64_to_240 words with_stripe scrambled with_stripes message_sums merged_sums hash64_long hash64_by hash128_of_none hash128_to_3 hash128_to_8 hash128_to_16 with_both finished ends_sums hash128_to_128 run_sums hash128_to_240 hash128_long hash128_by default_secret xxh3_64 xxh3_128
vector128_twelve = refl

pub vector64_hundred : xxh3_64 (replicate 100 97) ≡ 0x411d9368f9c30e07
unfolding word half_word pair folded_product avalanche old_avalanche mixed few_bytes hash64_to_3 hash64_to_8 hash64_to_16 ends_sum hash64_to_128 run_sum hash64_to_240 words with_stripe scrambled with_stripes message_sums merged_sums hash64_long hash64_by hash128_of_none hash128_to_3 hash128_to_8 hash128_to_16 with_both finished ends_sums hash128_to_128 run_sums hash128_to_240 hash128_long hash128_by default_secret xxh3_64 xxh3_128
vector64_hundred = refl

pub vector128_hundred : xxh3_128 (replicate 100 97) ≡ 0x7d09cdccbc6bead248fb02115fe96a8a
unfolding word half_word pair folded_product avalanche old_avalanche mixed few_bytes hash64_to_3 hash64_to_8 hash64_to_16 ends_sum hash64_to_128 run_sum hash64_to_240 words with_stripe scrambled with_stripes message_sums merged_sums hash64_long hash64_by hash128_of_none hash128_to_3 hash128_to_8 hash128_to_16 with_both finished ends_sums hash128_to_128 run_sums hash128_to_240 hash128_long hash128_by default_secret xxh3_64 xxh3_128
vector128_hundred = refl

pub vector64_two_hundred : xxh3_64 (replicate 200 97) ≡ 0xac2bd404bce6c995
unfolding word half_word pair folded_product avalanche old_avalanche mixed few_bytes hash64_to_3 hash64_to_8 hash64_to_16 ends_sum hash64_to_128 run_sum hash64_to_240 words with_stripe scrambled with_stripes message_sums merged_sums hash64_long hash64_by hash128_of_none hash128_to_3 hash128_to_8 hash128_to_16 with_both finished ends_sums hash128_to_128 run_sums hash128_to_240 hash128_long hash128_by default_secret xxh3_64 xxh3_128
vector64_two_hundred = refl

pub vector128_two_hundred : xxh3_128 (replicate 200 97) ≡ 0xcffe968d25cc79dac8654f5c46034008
unfolding word half_word pair folded_product avalanche old_avalanche mixed few_bytes hash64_to_3 hash64_to_8 hash64_to_16 ends_sum hash64_to_128 run_sum hash64_to_240 words with_stripe scrambled with_stripes message_sums merged_sums hash64_long hash64_by hash128_of_none hash128_to_3 hash128_to_8 hash128_to_16 with_both finished ends_sums hash128_to_128 run_sums hash128_to_240 hash128_long hash128_by default_secret xxh3_64 xxh3_128
vector128_two_hundred = refl

pub vector64_four_hundred : xxh3_64 (replicate 400 97) ≡ 0xe87d1b304e5efd1a
unfolding word half_word pair folded_product avalanche old_avalanche mixed few_bytes hash64_to_3 hash64_to_8 hash64_to_16 ends_sum hash64_to_128 run_sum hash64_to_240 words with_stripe scrambled with_stripes message_sums merged_sums hash64_long hash64_by hash128_of_none hash128_to_3 hash128_to_8 hash128_to_16 with_both finished ends_sums hash128_to_128 run_sums hash128_to_240 hash128_long hash128_by default_secret xxh3_64 xxh3_128
vector64_four_hundred = refl

pub vector128_four_hundred : xxh3_128 (replicate 400 97) ≡ 0x84b74cc100d811bde87d1b304e5efd1a
unfolding word half_word pair folded_product avalanche old_avalanche mixed few_bytes hash64_to_3 hash64_to_8 hash64_to_16 ends_sum hash64_to_128 run_sum hash64_to_240 words with_stripe scrambled with_stripes message_sums merged_sums hash64_long hash64_by hash128_of_none hash128_to_3 hash128_to_8 hash128_to_16 with_both finished ends_sums hash128_to_128 run_sums hash128_to_240 hash128_long hash128_by default_secret xxh3_64 xxh3_128
vector128_four_hundred = refl
