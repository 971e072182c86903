-- The pointers of a block lead to its heads.
use Rattle.std.proofs.Common.{◌≡◌, ℕ, zero, suc, ◌+◌, ◌-◌, ◌*◌, ◌/◌, ◌%◌, ◌<◌, ◌≤◌, ◌^◌, ◌⊎◌, ◌↔◌, inl, inr, List, [], ◌∷◌, ◌++◌, map, length, take, drop, Some, refl, sym, ap, subst, ◌∙◌, arith, append_assoc, length-drop, length-append, slice_index, mul-div_cancel, le-div_iff_mul-le}
use Rattle.std.specs.List.{AllByRecursion}
use Rattle.std.proofs.lemmas.Bool.{cases_lt}
use Rattle.std.proofs.lemmas.List.{drop_all, take-append-drop, drop_at, drop-map, length-map, length-take-le}
use Rattle.std.proofs.Math.Nat.{mul-mod_left}
use Rattle.sst_block_core.specs.Kind.{Kind, IsKind}
use Rattle.sst_block_core.specs.Body.{body, forms, items_at, place_offset}
use Rattle.sst_block_core.specs.Trailer.{Trailer, trailer, trailer_in}
use Rattle.sst_block_core.specs.Pointers.{head_count, pointers, pointers_in}
use Rattle.sst_block_core.specs.Buckets.{buckets, stored_count}
use Rattle.sst_block_core.specs.Payload.{IsEncoding, trailer_of}
use Rattle.sst_block_core.specs.Stages.{items_in, pointer_bytes, HasParts}
use Rattle.sst_block_core.specs.ListLaws.{all_drop}
use Rattle.sst_block_core.specs.Scan.{Listed, IsFormOffset, IsPlace}
use Rattle.sst_block_core.specs.Intervals.{IsIndexed}
use Rattle.sst_block_core.specs.BodyLaws.{forms_again}
use Rattle.sst_block_core.specs.OffsetLaws.{body-append, place_inside, place_plain, body_long}
use Rattle.sst_block_core.specs.CanonicalLaws.{encoded_from}
use Rattle.sst_block_core.specs.OpeningLaws.{opened}
use Rattle.sst_block_core.proofs.Places.PointerReads.{pointers_count, pointer_is}

-- which intervals of n items there are
pub head_below : (r n j : ℕ) → 0 < r → (j < head_count r n) ↔ (j * r < n)
head_below r n j pos =
    let i = le-div_iff_mul-le {k = r} {x = suc j} {y = n + (r - 1)} pos in
    let row : suc j * r ≡ j * r + r = omega arith in (
      (λ h. let k : suc j * r ≤ n + (r - 1) = i.0 h in omega (arith, row, k, pos)),
      (λ h. i.1 (omega (arith, row, h, pos))),
    )

-- the last one begins below n, and its end is n or above
pub heads_reach : (r n : ℕ) → 0 < r → 0 < n → ((head_count r n - 1) * r < n) × (n ≤ head_count r n * r)
heads_reach r n pos some =
    let c = head_count r n in
    let one : 0 < c = (head_below r n 0 pos).1 (omega arith) in (
      (head_below r n (c - 1) pos).0 (omega (arith, one)),
      elim (cases_lt (c * r) n) [
        | inl less ↦ absurd (let k = (head_below r n c pos).1 less in omega (arith, k))
        | inr ge ↦ ge
      ],
    )

module _ {X : Type 0} (kind : Kind X) (valid : X → Type 0) (laws : IsKind kind valid) (r : ℕ) (pos : 0 < r) (items : List X) (valids : AllByRecursion valid items) (after p : List ℕ) (whole : p ≡ body kind r items ++ after) where
  -- the bytes from the offset of an index on
  from_place : (i : ℕ) → i ≤ length items → drop (place_offset kind r items i) p ≡ forms kind r items i (drop i items) ++ after
  from_place i h =
      let front = body kind r (take i items) in
      let same = take-append-drop i items in
      let l : length (take i items) ≡ i = length-take-le i items h in
      let e : body kind r items ≡ front ++ forms kind r items i (drop i items) =
      ap (body kind r) (sym same) ∙ body-append kind r pos (take i items) (drop i items) ∙ (λ k. front ++ forms kind r (same k) (l k) (drop i items)) in
      ap (drop (length front)) (whole ∙ ap (λ t. t ++ after) e ∙ append_assoc front (forms kind r items i (drop i items)) after) ∙ drop_at front (forms kind r items i (drop i items) ++ after) (length front) refl

  head_reads : (i : ℕ) (base : List ℕ) → i ≤ length items → i % r ≡ 0 → items_at kind r i (length items - i) base (drop (place_offset kind r items i) p) ≡ Some (drop i (map kind.plain items), after)
  head_reads i base h z =
      let xs = drop i items in
      let n : length items - i ≡ length xs = sym (length-drop i items) in
      (λ k. items_at kind r i (n k) base (from_place i h k))
      ∙ forms_again kind r pos valid laws items xs i base after refl (all_drop valid i items valids) (λ x some. absurd (omega (arith, z, some)))
      ∙ ap (λ ys. Some (ys, after)) (sym (drop-map kind.plain i items))

  -- a head is encoded at its offset
  head_behind : (i : ℕ) → i ≤ length items → i % r ≡ 0 → IsFormOffset kind (record { payload = p; interval = r; items = map kind.plain items }) i (place_offset kind r items i) []
  head_behind i h z = record {
    place_inside = let l = length-map items kind.plain in omega arith;
    offset_inside = let a = place_inside kind r pos items i in let l = ap length whole in let m = length-append (body kind r items) after in omega arith;
    after = after;
    reads = let e : length (map kind.plain items) - i ≡ length items - i = ap (λ k. k - i) (length-map items kind.plain) in ap (λ n. items_at kind r i n [] (drop (place_offset kind r items i) p)) e ∙ head_reads i [] h z;
  }

-- the binary index of a payload has as many pointers as its trailer says
pub pointers_length : (t : Trailer) (p : List ℕ) → HasParts t p → length (pointers_in t.width (pointer_bytes t p)) ≡ t.heads
pointers_length t p parts =
    let e = parts.end in
    let l : length (pointer_bytes t p) ≡ t.heads * t.width = length-take-le (t.heads * t.width) (drop t.index_offset p) (let d = length-drop t.index_offset p in omega (arith, e, d)) in
    let w : 0 < t.width = elim parts.width [ inl two ↦ omega (arith, two) | inr four ↦ omega (arith, four) ] in
    pointers_count t.width (pointer_bytes t p) ∙ ap (λ n. n / t.width) l ∙ mul-div_cancel t.heads w

module _ {X : Type 0} (kind : Kind X) (valid : X → Type 0) (laws : IsKind kind valid) (hash : List ℕ → ℕ) (p : List ℕ) (items : List X) (r b : ℕ) (block : IsEncoding kind valid hash p items r b) (room : length p < 2 ^ 32) where
  -- each pointer of a block leads to its head
  pub indexed_from : IsIndexed kind (record { payload = p; interval = (trailer_in p).interval; items = items_in kind p }) (pointers_in (trailer_in p).width (pointer_bytes (trailer_in p) p)) (trailer_in p).item_count
  indexed_from =
      let all = encoded_from kind valid laws hash p items r b block room in
      let pass = all.0 in
      let t = trailer_in p in
      let count = (opened kind valid laws hash p items r b room block).count in
      let s = stored_count r (length items) b in
      let rest = 255 ∷ (pointers kind r items ++ (buckets kind hash r items s ++ trailer (trailer_of kind r items s))) in
      let most = block.interval.most in
      let same = all.2 in
      let n : length (items_in kind p) ≡ length items = ap length all.1 ∙ length-map items kind.plain in
      let heads = pass.parts.heads in
      let pos = pass.parts.interval in
      let long : length items ≤ length (body kind r items) = body_long kind r block.interval.some valid laws items in
      let total : length p ≡ length (body kind r items) + length rest = ap length block.whole ∙ length-append (body kind r items) rest in
      let many = pointers_length t p pass.parts in
      let pointer : (j : ℕ) → j * t.interval < length (items_in kind p) → slice_index (pointers_in t.width (pointer_bytes t p)) j ≡ place_offset kind t.interval (items_in kind p) (j * t.interval) = (λ j h.
      let k = (head_below t.interval (length (items_in kind p)) j pos).1 h in
      let e = ap (head_count t.interval) count in
      let few : j < t.heads = omega (arith, k, e, heads) in
      pointer_is t.width (pointer_bytes t p) j 0 (omega (arith, few, many)) ∙ pass.pointers.offsets j few) in
      record {
        listed = record {
          interval_some = pos;
          interval_fits = omega (arith, most, same);
          some = let o = block.some in omega (arith, n, o);
          few = omega (arith, n, long, total, room);
          fits = room;
        };
        item_count = count;
        head_total = many ∙ heads ∙ ap (head_count t.interval) count;
        are_heads = λ j h.
            let z : (j * r) % r ≡ 0 = mul-mod_left j r in
            let there = head_behind kind valid laws r block.interval.some items block.are_valid rest p block.whole (j * r) (let e = ap (λ q. j * q) same in omega (arith, h, n, e)) z in
            let offset : place_offset kind r items (j * r) ≡ slice_index (pointers_in t.width (pointer_bytes t p)) j =
            sym (place_plain kind r block.interval.some valid laws items (j * r)) ∙ (λ i. place_offset kind (sym same i) (sym all.1 i) (j * sym same i)) ∙ sym (pointer j h) in
            record {
              head = [];
              is_place = record {
                phase = sym (mul-mod_left j t.interval);
                base = λ some. absurd (omega (arith, some));
                behind = (subst (λ f. IsFormOffset kind (record { payload = p; interval = t.interval; items = items_in kind p }) (j * t.interval) f []) offset
                    (subst (λ q. IsFormOffset kind (record { payload = p; interval = q; items = items_in kind p }) (j * q) (place_offset kind r items (j * r)) []) (sym same)
                    (subst (λ xs. IsFormOffset kind (record { payload = p; interval = r; items = xs }) (j * r) (place_offset kind r items (j * r)) []) (sym all.1) there)));
              };
            };
        offsets = pointer;
      }

-- the same, where the numbers of the trailer, the index and the payload are known by equations
module _ {X : Type 0} (kind : Kind X) (valid : X → Type 0) (laws : IsKind kind valid) (p q : List ℕ) (w heads off : ℕ) (same : q ≡ p) (width : w ≡ (trailer_in p).width) (count : heads ≡ (trailer_in p).heads) (offset : off ≡ (trailer_in p).index_offset) (room : length p < 2 ^ 32)
    (some : (hash : List ℕ → ℕ) × (items : List X) × (r : ℕ) × (b : ℕ) × IsEncoding kind valid hash p items r b) where
  -- the pointers lie in the payload, in 2 or 4 bytes each
  pub index_inside : (31 ≤ length p) × ((w ≡ 2) ⊎ (w ≡ 4)) × (off + heads * w ≤ length q)
  index_inside =
      let pass = (encoded_from kind valid laws some.0 p some.1 some.2 some.3 some.4 room).0 in
      let e = pass.parts.end in
      let n = ap length same in
      let m : heads * w ≡ (trailer_in p).heads * (trailer_in p).width = (λ i. count i * width i) in (
        pass.trailer,
        subst (λ k. (k ≡ 2) ⊎ (k ≡ 4)) (sym width) pass.parts.width,
        omega (arith, e, n, m, offset),
      )

  pub indexed_along : (r n : ℕ) (ps : List ℕ) → r ≡ (trailer_in p).interval → n ≡ (trailer_in p).item_count → ps ≡ pointers_in w (take (heads * w) (drop off q))
      → IsIndexed kind (record { payload = q; interval = r; items = items_in kind q }) ps n
  indexed_along r n ps interval items index =
      let t = trailer_in p in
      let e : ps ≡ pointers_in t.width (pointer_bytes t p) = index ∙ (λ i. pointers_in (width i) (take (count i * width i) (drop (offset i) (same i)))) in
      subst (λ (xs : List ℕ). IsIndexed kind (record { payload = q; interval = r; items = items_in kind q }) xs n) (sym e)
      (subst (λ (m : ℕ). IsIndexed kind (record { payload = q; interval = r; items = items_in kind q }) (pointers_in t.width (pointer_bytes t p)) m) (sym items)
      (subst (λ (m : ℕ). IsIndexed kind (record { payload = q; interval = m; items = items_in kind q }) (pointers_in t.width (pointer_bytes t p)) t.item_count) (sym interval)
      (subst (λ (s : List ℕ). IsIndexed kind (record { payload = s; interval = t.interval; items = items_in kind s }) (pointers_in t.width (pointer_bytes t p)) t.item_count) (sym same)
      (indexed_from kind valid laws some.0 p some.1 some.2 some.3 some.4 room))))

-- the first item is encoded at the start
pub first_is_place : {X : Type 0} (kind : Kind X) (list : Listed X) (ps : List ℕ) (n : ℕ) → IsIndexed kind list ps n → IsPlace kind list (record { index = 0; phase = 0; offset = 0; base = 0 })
unfolding body
first_is_place kind list ps n i =
    let some = i.listed.some in
    let z : 0 * list.interval ≡ 0 = omega arith in
    let h : 0 * list.interval < length list.items = omega (arith, some, z) in
    let e : slice_index ps 0 ≡ 0 = i.offsets 0 h ∙ ap (place_offset kind list.interval list.items) z in
    subst (λ o. IsPlace kind list (record { index = 0; phase = 0; offset = o; base = 0 })) e
    (subst (λ n. IsPlace kind list (record { index = n; phase = 0; offset = slice_index ps 0; base = 0 })) z (i.are_heads 0 h))

-- after the last item nothing is read, at any offset
pub last_is_place : {X : Type 0} (kind : Kind X) (list : Listed X) (place phase : ℕ) → place ≡ length list.items → phase ≡ place % list.interval → IsPlace kind list (record { index = place; phase = phase; offset = 0; base = 0 })
unfolding items_at
last_is_place kind list place phase e p =
    let none : length list.items - place ≡ 0 = omega arith in
    record {
      head = [];
      is_place = record {
        phase = p;
        base = λ _. record { inside = omega arith; after = list.payload; there = refl };
        behind = record {
          place_inside = omega arith;
          offset_inside = omega arith;
          after = list.payload;
          reads = ap (λ n. items_at kind list.interval place n [] list.payload) none ∙ ap (λ ys. Some (ys, list.payload)) (sym (drop_all place list.items (omega arith)));
        };
      };
    }
