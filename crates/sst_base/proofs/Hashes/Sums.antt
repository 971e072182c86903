-- The sum of bytes, a byte a step.
use Rattle.std.proofs.Common.{◌≡◌, ℕ, ◌+◌, ◌%◌, ◌^◌, List, [], ◌∷◌, refl, ap, ◌∙◌}
use Rattle.std.specs.List.{fold}
use Rattle.sst_base.specs.HashLaws.{add-mod_first}
use Rattle.sst_base.specs.Hashes.{plus, byte_sum_from}

-- a step modulo a power of two
abbrev pub wrapped_sum : ℕ → ℕ → ℕ → ℕ
wrapped_sum bits so_far byte = (so_far + byte) % 2 ^ bits

sums_mod : (bits h : ℕ) (bytes : List ℕ) → fold (wrapped_sum bits) (h % 2 ^ bits) bytes ≡ fold plus h bytes % 2 ^ bits
sums_mod bits h [] = refl
sums_mod bits h (b ∷ bytes) = ap (λ s. fold (wrapped_sum bits) s bytes) (add-mod_first h b (2 ^ bits)) ∙ sums_mod bits (h + b) bytes

pub byte_sum_steps : (bits so_far : ℕ) (bytes : List ℕ) → so_far ≡ so_far % 2 ^ bits → fold (wrapped_sum bits) so_far bytes ≡ byte_sum_from bits so_far bytes
byte_sum_steps bits so_far bytes h = ap (λ s. fold (wrapped_sum bits) s bytes) h ∙ sums_mod bits so_far bytes
