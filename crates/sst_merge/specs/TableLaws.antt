-- Laws of what was taken from a source.
use Rattle.std.proofs.Common.{◌≡◌, suc, ◌-◌, ◌≤◌, false, List, [], ◌∷◌, ◌++◌, length, slice_get, Option, Some, None, refl, sym, ap, subst, ◌∙◌, arith, length-append}
use Rattle.std.proofs.lemmas.List.{append_assoc, length_push}
use Rattle.std.specs.Option.{option_map, is_some, IfSome}
use Rattle.sstable_blocks.specs.Prelude.{Entry}
use Rattle.sstable_blocks.specs.Blocks.{joined}
use Rattle.sst_sources.specs.Sources.{IsTaken}
use Rattle.sst_merge.specs.Tables.{IsApart}
use Rattle.sstable_blocks.specs.RunLaws.{joined_push}

-- nothing was taken yet
pub taken_none : {X : Type 0} (s : Option (List X)) → IsTaken s [] s
taken_none None = refl
taken_none (Some xs) = refl

-- what was taken after what was taken
both_by : {X : Type 0} (xs ys : List X) (u : Option (List X)) → option_map (λ rest. xs ++ rest) (option_map (λ rest. ys ++ rest) u) ≡ option_map (λ rest. (xs ++ ys) ++ rest) u
both_by xs ys None = refl
both_by xs ys (Some rest) = ap Some (sym (append_assoc xs ys rest))

pub taken_both : {X : Type 0} (s t u : Option (List X)) (xs ys : List X) → IsTaken s xs t → IsTaken t ys u → IsTaken s (xs ++ ys) u
taken_both s t u xs ys h k = h ∙ ap (option_map (λ rest. xs ++ rest)) k ∙ both_by xs ys u

-- and then a block
pub taken_block : {X : Type 0} (s t u : Option (List X)) (blocks : List (List X)) (b : List X) → IsTaken s (joined blocks) t → IsTaken t b u → IsTaken s (joined (blocks ++ b ∷ [])) u
taken_block s t u blocks b h k = taken_both s t u (joined blocks) b h k ∙ ap (λ xs. option_map (λ rest. xs ++ rest) u) (sym (joined_push blocks b))

-- a list with one more is not empty
pub some_push : {X : Type 0} (xs : List X) (x : X) → 1 ≤ length (xs ++ x ∷ [])
some_push xs x = let e = length_push xs x in omega (arith, e)

-- where no first item is seen, none is left
pub none_left : {X Y : Type 0} (f : Y → X) (list : Option (List X)) (r : Option Y) → IfSome list (λ xs. option_map f r ≡ slice_get xs 0) → is_some r ≡ false → IfSome list (λ xs. xs ≡ [])
none_left f None r h e = tt
none_left f (Some []) r h e = refl
none_left f (Some (x ∷ xs)) None h e = absurd (cc)
none_left f (Some (x ∷ xs)) (Some y) h e = absurd (cc)

-- the last item of a list is that of its last part, if that has one
pub last_of : {X : Type 0} (xs ys : List X) → 1 ≤ length ys → slice_get (xs ++ ys) (length (xs ++ ys) - 1) ≡ slice_get ys (length ys - 1)
last_of [] ys some = refl
last_of (x ∷ xs) ys some =
    let n = length-append xs ys in
    let e : length (x ∷ (xs ++ ys)) - 1 ≡ suc (length (xs ++ ys) - 1) = omega (arith, n, some) in
    ap (slice_get (x ∷ (xs ++ ys))) e ∙ last_of xs ys some

-- blocks end where their last one does
apart_joined : (blocks : List (List Entry)) (b rest : List Entry) → 1 ≤ length b → IsApart b rest → IsApart (joined (blocks ++ b ∷ [])) rest
apart_joined blocks b rest some h last next e f =
    let here : slice_get (joined (blocks ++ b ∷ [])) (length (joined (blocks ++ b ∷ [])) - 1) ≡ slice_get b (length b - 1) =
    ap (λ xs. slice_get xs (length xs - 1)) (joined_push blocks b) ∙ last_of (joined blocks) b some in
    h last next (sym here ∙ e) f

pub apart_blocks : (blocks front : List (List Entry)) (b : List Entry) (o : Option (List Entry)) → blocks ≡ front ++ b ∷ [] → 1 ≤ length b → IfSome o (IsApart b) → IfSome o (IsApart (joined blocks))
apart_blocks blocks front b None e some h = tt
apart_blocks blocks front b (Some rest) e some h = subst (λ (bs : List (List Entry)). IsApart (joined bs) rest) (sym e) (apart_joined front b rest some h)
