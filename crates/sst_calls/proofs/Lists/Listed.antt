-- Lists of places that grow: of no entry, of one, and of those of two lists.
use Rattle.std.proofs.Common.{◌≡◌, ◌∙◌, ℕ, ◌+◌, ◌≤◌, ◌<◌, true, cond, List, [], ◌∷◌, ◌++◌, length, take, set, refl, sym, ap, arith, subst, Option, Some, append_assoc, length-append, length-set}
use Rattle.std.specs.Prelude.{slice_get}
use Rattle.std.proofs.lemmas.List.{append-nil, get_or_at, length_push, take_all, take_at}
use Rattle.std.proofs.lemmas.List.Elements.{filter-append}
use Rattle.std.proofs.lemmas.Option.{slice_get-get_or}
use Rattle.sstable_blocks.specs.Prelude.{Entry}
use Rattle.sst_calls.specs.Batches.{Lists, is_under, visible}
use Rattle.sst_calls.specs.Blocks.{IsPlaceOf}
use Rattle.sst_calls.specs.Listing.{AreAt, AreListed}
use Rattle.sst_calls.specs.declared.data_block.SstPlace.{SstPlace}
use Rattle.sst_calls.proofs.Lists.Listings.{one_more_listed}

-- no entry is listed yet
pub none_listed : {F X : Type 0} (IsAt : F → X → Type 0) (old : List F) → AreAt IsAt [] old old
none_listed IsAt old = record { each = λ i f e here there. absurd (cc); others = refl; kept = refl }

-- an entry more after those that are listed
pub push_listed : (p : List ℕ) (before : List Entry) (old new : List SstPlace) (i : ℕ) (f : SstPlace) (e : Entry) → length before ≡ i → i < length new → IsPlaceOf p f e → AreListed p before old new
    → AreListed p (before ++ e ∷ []) old (set new i f)
push_listed p before old new i f e len room is so_far =
    let items = before ++ e ∷ [] in
    let size : length items ≡ i + 1 = length_push before e ∙ ap (λ n. n + 1) len in
    let front : take i items ≡ before = take_at before (e ∷ []) i len in
    let all : take (i + 1) items ≡ items = take_all (i + 1) items (omega (arith, size)) in
    let at : slice_get items i ≡ Some e = slice_get-get_or items i e (omega (arith, size)) ∙ ap Some (get_or_at before e [] e i len) in
    let more = one_more_listed (IsPlaceOf p) items old new i f e (omega (arith, size)) (omega (arith, so_far.kept, room)) at is (subst (λ xs. AreListed p xs old new) (sym front) so_far) in
    subst (λ xs. AreListed p xs old (set new i f)) all more

-- of no entry nothing is listed
pub lists_none : (bytes : List ℕ) (below : Option ℕ) (old : List SstPlace) (count : ℕ) → count ≤ length old → Lists bytes below [] old old count count
lists_none bytes below old count room = record {
  more = λ start before len are. subst (λ xs. AreListed bytes xs start old) (sym (append-nil before)) are;
  count = omega arith;
  room = room;
  kept = refl;
}

-- an entry that is below the number has its place after the others
pub lists_one : (bytes : List ℕ) (below : Option ℕ) (e : Entry) (old : List SstPlace) (count : ℕ) (f : SstPlace) → is_under below e.key.seqno ≡ true → count < length old → IsPlaceOf bytes f e
    → Lists bytes below (e ∷ []) old (set old count f) count (count + 1)
lists_one bytes below e old count f less room is =
    let shown : visible below (e ∷ []) ≡ e ∷ [] = ap (λ b. cond b (e ∷ []) []) less in
    record {
      more = λ start before len are. subst (λ xs. AreListed bytes (before ++ xs) start (set old count f)) (sym shown) (push_listed bytes before start old count f e len room is are);
      count = omega (arith, ap (λ (xs : List Entry). length xs) shown);
      room = omega (arith, room);
      kept = length-set old count f;
    }

-- the entries of one list, and then those of another
pub lists_more : (bytes : List ℕ) (below : Option ℕ) (xs ys : List Entry) (old mid new : List SstPlace) (a b c : ℕ) → Lists bytes below xs old mid a b → Lists bytes below ys mid new b c → Lists bytes below (xs ++ ys) old new a c
lists_more bytes below xs ys old mid new a b c first second =
    let both : visible below (xs ++ ys) ≡ visible below xs ++ visible below ys = filter-append (λ (e : Entry). is_under below e.key.seqno) xs ys in
    record {
      more = λ start before len are.
          (let so_far = first.more start before len are in
          let size : length (before ++ visible below xs) ≡ b = length-append before (visible below xs) ∙ ap (λ n. n + length (visible below xs)) len ∙ sym first.count in
          let all = second.more start (before ++ visible below xs) size so_far in
          subst (λ zs. AreListed bytes zs start new) (append_assoc before (visible below xs) (visible below ys) ∙ sym (ap (λ zs. before ++ zs) both)) all);
      count = omega (arith, first.count, second.count, ap (λ (zs : List Entry). length zs) both, length-append (visible below xs) (visible below ys));
      room = omega (arith, second.room, first.kept);
      kept = second.kept ∙ first.kept;
    }
