-- Frames that follow each other.
use Rattle.std.proofs.Common.{◌≡◌, ◌≢◌, ◌∙◌, ◌<◌, ℕ, ◌+◌, List, [], ◌∷◌, drop, drop-cons, get_or, refl, sym, ap, Option, Some, None, Bool, false, rules, arith, length}
use Rattle.std.specs.Option.{option_map}
use Rattle.std.specs.List.{slice_get}
use Rattle.std.proofs.lemmas.Option.{slice_get_within, get_or_from_slice_get}
use Rattle.sstable_blocks.specs.Prelude.{HandleParts, Handle}
use Rattle.sstable_blocks.specs.BlockLaws.{handle_range}
use Rattle.sst_tool.specs.Frames.{offset_after, follow_from}

tail-at : (items : List Handle) (i : ℕ) (h : Handle) → slice_get items i ≡ Some h → drop i items ≡ h ∷ drop (i + 1) items
tail-at items i h is = grind (arith, drop-cons items i h (slice_get_within items i h is), get_or_from_slice_get items i h h is)

follows-first : (h : Handle) (hs : List Handle) (at : ℕ) → h.offset ≡ at → follow_from at (h ∷ hs) ≡ follow_from (offset_after (handle_range h)) hs
follows-first h hs at is = grind arith

astray-first : (h : Handle) (hs : List Handle) (at : ℕ) → h.offset ≢ at → follow_from at (h ∷ hs) ≡ false
astray-first h hs at not = grind arith

follows-by : (found : Option Handle) (items : List Handle) (i at : ℕ) (r : HandleParts) → slice_get items i ≡ found → Some r ≡ option_map handle_range found → r.offset ≡ at
    → follow_from at (drop i items) ≡ follow_from (offset_after r) (drop (i + 1) items)
follows-by None items i at r is range same = search rules
follows-by (Some h) items i at r is range same =
    let same-range : r ≡ handle_range h = search rules in
    ap (follow_from at) (tail-at items i h is) ∙ follows-first h (drop (i + 1) items) at (ap (λ q. q.offset) (sym same-range) ∙ same) ∙ ap (λ q. follow_from (offset_after q) (drop (i + 1) items)) (sym same-range)

astray-by : (found : Option Handle) (items : List Handle) (i at : ℕ) (r : HandleParts) → slice_get items i ≡ found → Some r ≡ option_map handle_range found → r.offset ≢ at
    → follow_from at (drop i items) ≡ false
astray-by None items i at r is range differs = search rules
astray-by (Some h) items i at r is range differs =
    let same-range : r ≡ handle_range h = search rules in
    ap (follow_from at) (tail-at items i h is) ∙ astray-first h (drop (i + 1) items) at (λ e. differs (ap (λ q. q.offset) same-range ∙ e))

-- a frame that begins where the one before it ends is passed
pub follows : (items : List Handle) (i at : ℕ) (r : HandleParts) → Some r ≡ option_map handle_range (slice_get items i) → r.offset ≡ at → follow_from at (drop i items) ≡ follow_from (offset_after r) (drop (i + 1) items)
follows items i at r range same = follows-by (slice_get items i) items i at r refl range same

-- after one that does not, they do not follow each other
pub astray : (items : List Handle) (i at : ℕ) (r : HandleParts) → Some r ≡ option_map handle_range (slice_get items i) → r.offset ≢ at → follow_from at (drop i items) ≡ false
astray items i at r range differs = astray-by (slice_get items i) items i at r refl range differs
