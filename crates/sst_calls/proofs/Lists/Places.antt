-- Places in bytes, by those in a part of them, such as the payload of a run's block.
use Rattle.std.proofs.Common.{◌≡◌, ℕ, ◌+◌, ◌-◌, ◌≤◌, ◌<◌, Option, Some, None, IfSome, List, ◌++◌, length, take, drop, arith, sym, ◌∙◌, ap}
use Rattle.std.proofs.lemmas.List.{drop-drop, drop-take, length-drop, length-take-le, take-take}
use Rattle.sstable_blocks.specs.Prelude.{HandleParts, Entry}
use Rattle.sstable_blocks.specs.Opened.{IsFrameRange, payload_in}
use Rattle.sst_calls.specs.Blocks.{bytes_behind, IsPartAt, IsPlaceOf}
use Rattle.sst_calls.specs.declared.data_block.SstPlace.{SstPlace}

-- a part of a part
part_of_part : (bytes : List ℕ) (start n offset len : ℕ) → offset + len ≤ n → bytes_behind bytes (start + offset) len ≡ bytes_behind (take n (drop start bytes)) offset len
part_of_part bytes start n offset len inside =
    let k = n - offset in
    let whole : n ≡ offset + k = omega (arith, inside) in
    sym (ap (λ m. take len (drop offset (take m (drop start bytes)))) whole
    ∙ ap (take len) (drop-take offset k (drop start bytes))
    ∙ take-take len k (drop offset (drop start bytes)) (omega (arith, inside))
    ∙ ap (take len) (drop-drop offset start bytes))

-- the place in bytes of what is at a place in a part of them
pub placed : (bytes p : List ℕ) (start : ℕ) (f : SstPlace) (e : Entry) → IsPartAt bytes start p → IsPlaceOf p f e
    → IsPlaceOf bytes (record f { prefix_offset = start + f.prefix_offset; key_offset = start + f.key_offset; value_offset = start + f.value_offset }) e
placed bytes p start f e part at = record {
  seqno = at.seqno;
  value_type = at.value_type;
  key = ap (λ xs. xs ++ bytes_behind bytes (start + f.key_offset) f.key_len) (behind f.prefix_offset f.prefix_len at.prefix_inside)
      ∙ ap (λ xs. bytes_behind p f.prefix_offset f.prefix_len ++ xs) (behind f.key_offset f.key_len at.key_inside)
      ∙ at.key;
  value = behind f.value_offset f.value_len at.value_inside ∙ at.value;
  prefix_inside = omega (arith, at.prefix_inside, part.inside);
  key_inside = omega (arith, at.key_inside, part.inside);
  value_inside = omega (arith, at.value_inside, part.inside);
}
  where
    behind : (offset len : ℕ) → offset + len ≤ length p → bytes_behind bytes (start + offset) len ≡ bytes_behind p offset len
    behind offset len inside = part_of_part bytes start (length p) offset len inside ∙ ap (λ q. bytes_behind q offset len) part.is

-- it begins after the header
pub frame_part : (bytes : List ℕ) (h : HandleParts) → IsFrameRange bytes h → IsPartAt bytes (h.offset + 33) (payload_in bytes h)
unfolding payload_in
frame_part bytes h range =
    let rest = drop (h.offset + 33) bytes in
    let size : length (payload_in bytes h) ≡ h.size - 33 = length-take-le (h.size - 33) rest (omega (arith, length-drop (h.offset + 33) bytes, range.inside, range.header)) in
    record {
      is = ap (λ n. take n rest) size;
      inside = omega (arith, size, range.inside, range.header);
    }

-- a frame has some bytes
pub some_frame : (bytes : List ℕ) (f : Option HandleParts) → IfSome f (IsFrameRange bytes) → IfSome f (λ h. 0 < h.size)
some_frame bytes None range = tt
some_frame bytes (Some h) range = let header = range.header in omega (arith, header)
