-- Laws of tables that a compaction wrote.
use Rattle.std.proofs.Common.{◌≡◌, ℕ, ◌+◌, ◌-◌, ◌≤◌, length, take, drop, slice_get, inl, inr, arith, List, [], ◌∷◌, ◌++◌, map, Option, Some, None, refl, sym, ap, subst, ◌∙◌, append-nil}
use Rattle.std.proofs.lemmas.Bool.{cases_lt}
use Rattle.std.proofs.lemmas.List.{append_assoc, length_push, take-append-le, drop-append-le, take_all, drop_all}
use Rattle.std.specs.List.{AllZip}
use Rattle.std.specs.Option.{option_map, IfSome}
use Rattle.sstable_blocks.specs.Prelude.{Entry}
use Rattle.sstable_blocks.specs.Blocks.{joined}
use Rattle.sstable_blocks.specs.declared.run.RunHandles.{RunHandles}
use Rattle.sst_merge.specs.Outputs.{Output, IsOutputOf, IsSized, AreSized, entries_of, AreWritten}
use Rattle.sst_merge.specs.TableLaws.{taken_none, taken_both}
use Rattle.sst_merge.specs.SizeLaws.{apart_part}
use Rattle.sstable_blocks.specs.TableKinds.{TableKind}
use Rattle.sst_merge.specs.Tables.{IsApart, IsShortest, IsTableOf}
use Rattle.sst_sources.specs.Sources.{IsTaken}
use Rattle.sst_merge.specs.declared.writing.Sizes.{Sizes}
use Rattle.sstable_blocks.specs.RunLaws.{joined_push}

zip_push : {X Y : Type 0} (R : X → Y → Type 0) (xs : List X) (ys : List Y) (x : X) (y : Y) → AllZip R xs ys → R x y → AllZip R (xs ++ x ∷ []) (ys ++ y ∷ [])
zip_push R [] [] x y all r = (r, tt)
zip_push R [] (z ∷ ys) x y all r = absurd all
zip_push R (z ∷ xs) [] x y all r = absurd all
zip_push R (a ∷ xs) (b ∷ ys) x y all r = (all.0, zip_push R xs ys x y all.1 r)

map_push : {X Y : Type 0} (f : X → Y) (xs : List X) (x : X) → map f (xs ++ x ∷ []) ≡ map f xs ++ f x ∷ []
map_push f [] x = refl
map_push f (y ∷ ys) x = ap (λ zs. f y ∷ zs) (map_push f ys x)

-- one run more
entries_push : (runs : List (List (List Entry))) (blocks : List (List Entry)) → entries_of (runs ++ blocks ∷ []) ≡ entries_of runs ++ joined blocks
entries_push runs blocks = ap joined (map_push joined runs blocks) ∙ joined_push (map joined runs) (joined blocks)

nothing_apart : (n : ℕ) (rest : List Entry) → IsApart (entries_of (take n [])) rest
nothing_apart n rest last next e f =
    let none : take n [] ≡ [] = take_all n [] (omega arith) in
    absurd (let g : None ≡ Some last = ap (λ (runs : List (List (List Entry))). slice_get (entries_of runs) (length (entries_of runs) - 1)) (sym none) ∙ e in cc)

none_apart : (s : Option (List Entry)) → IfSome s (λ rest. (n : ℕ) → IsApart (entries_of (take n [])) (entries_of (drop n []) ++ rest))
none_apart None = tt
none_apart (Some xs) = λ n. nothing_apart n (entries_of (drop n []) ++ xs)

apart_more : (runs : List (List (List Entry))) (blocks : List (List Entry)) (rest : List Entry) → 1 ≤ length (joined blocks) → ((n : ℕ) → IsApart (entries_of (take n runs)) (entries_of (drop n runs) ++ (joined blocks ++ rest))) → IsApart (joined blocks) rest
    → (n : ℕ) → IsApart (entries_of (take n (runs ++ blocks ∷ []))) (entries_of (drop n (runs ++ blocks ∷ [])) ++ rest)
apart_more runs blocks rest some all here n = elim (cases_lt n (length runs + 1)) [
  | inl less ↦ (
      let a : take n (runs ++ blocks ∷ []) ≡ take n runs = take-append-le n runs (blocks ∷ []) (omega (arith, less)) in
      let d : drop n (runs ++ blocks ∷ []) ≡ drop n runs ++ blocks ∷ [] = drop-append-le n runs (blocks ∷ []) (omega (arith, less)) in
      let e : entries_of (drop n (runs ++ blocks ∷ [])) ++ rest ≡ entries_of (drop n runs) ++ (joined blocks ++ rest) =
      ap (λ (rs : List (List (List Entry))). entries_of rs ++ rest) d ∙ ap (λ es. es ++ rest) (entries_push (drop n runs) blocks) ∙ append_assoc (entries_of (drop n runs)) (joined blocks) rest in
      subst (λ (rs : List (List (List Entry))). IsApart (entries_of rs) (entries_of (drop n (runs ++ blocks ∷ [])) ++ rest)) (sym a) (subst (IsApart (entries_of (take n runs))) (sym e) (all n)))
  | inr more ↦ (
      let l = length_push runs blocks in
      let a : take n (runs ++ blocks ∷ []) ≡ runs ++ blocks ∷ [] = take_all n (runs ++ blocks ∷ []) (omega (arith, l, more)) in
      let d : drop n (runs ++ blocks ∷ []) ≡ [] = drop_all n (runs ++ blocks ∷ []) (omega (arith, l, more)) in
      let whole : entries_of (take n (runs ++ blocks ∷ [])) ≡ entries_of runs ++ joined blocks = ap entries_of a ∙ entries_push runs blocks in
      subst (λ es. IsApart es (entries_of (drop n (runs ++ blocks ∷ [])) ++ rest)) (sym whole)
      (subst (λ (rs : List (List (List Entry))). IsApart (entries_of runs ++ joined blocks) (entries_of rs ++ rest)) (sym d) (apart_part (entries_of runs) (joined blocks) rest some here)))
]

apart_after : (runs : List (List (List Entry))) (blocks : List (List Entry)) (mid after : Option (List Entry)) → IsTaken mid (joined blocks) after → 1 ≤ length (joined blocks) → IfSome mid (λ rest. (n : ℕ) → IsApart (entries_of (take n runs)) (entries_of (drop n runs) ++ rest)) → IfSome after (IsApart (joined blocks))
    → IfSome after (λ rest. (n : ℕ) → IsApart (entries_of (take n (runs ++ blocks ∷ []))) (entries_of (drop n (runs ++ blocks ∷ [])) ++ rest))
apart_after runs blocks mid None taken some all here = tt
apart_after runs blocks None (Some rest) taken some all here = absurd (cc)
apart_after runs blocks (Some ys) (Some rest) taken some all here =
    let is : ys ≡ joined blocks ++ rest = cc in
    apart_more runs blocks rest some (λ n. subst (λ es. IsApart (entries_of (take n runs)) (entries_of (drop n runs) ++ es)) is (all n)) here

same_after : (o : Option (List Entry)) → option_map (λ rest. entries_of [] ++ rest) o ≡ o
same_after None = refl
same_after (Some xs) = refl

later_after : (runs : List (List (List Entry))) (blocks : List (List Entry)) (mid after : Option (List Entry)) → IsTaken mid (joined blocks) after → option_map (λ rest. entries_of runs ++ rest) mid ≡ option_map (λ rest. entries_of (runs ++ blocks ∷ []) ++ rest) after
later_after runs blocks mid None taken = ap (option_map (λ rest. entries_of runs ++ rest)) taken
later_after runs blocks mid (Some rest) taken =
    ap (option_map (λ rest. entries_of runs ++ rest)) taken ∙ ap Some (sym (append_assoc (entries_of runs) (joined blocks) rest) ∙ ap (λ es. es ++ rest) (sym (entries_push runs blocks)))

sized_push : (r : ℕ) (sizes : Sizes) (mid after : Option (List Entry)) (runs : List (List (List Entry))) (blocks : List (List Entry)) → IsTaken mid (joined blocks) after → AreSized r sizes mid runs → IsSized r sizes after blocks → AreSized r sizes after (runs ++ blocks ∷ [])
sized_push r sizes mid after [] blocks taken all one = (subst (λ o. IsSized r sizes o blocks) (sym (same_after after)) one, tt)
sized_push r sizes mid after (b ∷ runs) blocks taken all one = (subst (λ o. IsSized r sizes o b) (later_after runs blocks mid after taken) all.0, sized_push r sizes mid after runs blocks taken all.1 one)

known_before : (P : Type 0) (before after : Option (List Entry)) (xs : List Entry) → IsTaken before xs after → IfSome before (λ _. P) → IfSome after (λ _. P)
known_before P before None xs taken h = tt
known_before P None (Some rest) xs taken h = absurd (cc)
known_before P (Some ys) (Some rest) xs taken h = h

table_sized : (k : TableKind) (sizes : Sizes) (start bytes : Option (List ℕ)) (h : RunHandles) (before after : Option (List Entry)) → (t : IsTableOf k sizes start bytes h before after) → IsSized k.interval sizes after t.blocks
table_sized k sizes start bytes h before after t = record {
  filled = t.filled;
  reaches = t.reaches;
  shortest = known_before (IsShortest k.interval sizes.table t.blocks) before after (joined t.blocks) t.taken t.shortest;
}

-- no table was written yet
pub none_written : (k : TableKind) (sizes : Sizes) (start : Option (List ℕ)) (s : Option (List Entry)) (tables : List Output) → AreWritten k sizes start s s tables tables
none_written k sizes start s tables = record { outputs = []; runs = []; grown = sym (append-nil tables); each = tt; taken = taken_none s; apart = none_apart s; sized = tt }

-- one table more
pub one_written : (k : TableKind) (sizes : Sizes) (start : Option (List ℕ)) (before mid after : Option (List Entry)) (old now new : List Output) (o : Output) → AreWritten k sizes start before mid old now → IsTableOf k sizes start o.bytes o.handles mid after → new ≡ now ++ o ∷ []
    → AreWritten k sizes start before after old new
one_written k sizes start before mid after old now new o w t e = record {
  outputs = w.outputs ++ o ∷ [];
  runs = w.runs ++ t.blocks ∷ [];
  grown = e ∙ ap (λ xs. xs ++ o ∷ []) w.grown ∙ append_assoc old w.outputs (o ∷ []);
  each = zip_push (IsOutputOf k start) w.outputs w.runs o t.blocks w.each t.layout;
  taken = taken_both before mid after (entries_of w.runs) (joined t.blocks) w.taken t.taken ∙ ap (λ xs. option_map (λ rest. xs ++ rest) after) (sym (entries_push w.runs t.blocks));
  apart = apart_after w.runs t.blocks mid after t.taken t.some w.apart t.apart;
  sized = sized_push k.interval sizes mid after w.runs t.blocks t.taken w.sized (table_sized k sizes start o.bytes o.handles mid after t);
}

nothing_left : (s : Option (List Entry)) → IfSome s (λ xs. xs ≡ []) → (t : Option (List Entry)) (xs : List Entry) → t ≡ option_map (λ rest. xs ++ rest) s → s ≡ option_map (λ _. []) t
nothing_left None h None xs e = refl
nothing_left None h (Some ys) xs e = absurd (cc)
nothing_left (Some ys) h None xs e = absurd (cc)
nothing_left (Some ys) h (Some zs) xs e = ap Some h

-- all was written where nothing is left
pub all_written : (k : TableKind) (sizes : Sizes) (start : Option (List ℕ)) (before after : Option (List Entry)) (old new : List Output) → AreWritten k sizes start before after old new → IfSome after (λ xs. xs ≡ []) → AreWritten k sizes start before (option_map (λ _. []) before) old new
all_written k sizes start before after old new w h = subst (λ s. AreWritten k sizes start before s old new) (nothing_left after h before (entries_of w.runs) w.taken) w

-- whether what is left is known does not depend on how its list is changed
pub none_after : {X Y Z : Type 0} (f : List X → List Y) (o : Option (List X)) → ◌≡◌ {A = Option (List Z)} (option_map (λ _. []) (option_map f o)) (option_map (λ _. []) o)
none_after f None = refl
none_after f (Some xs) = refl
