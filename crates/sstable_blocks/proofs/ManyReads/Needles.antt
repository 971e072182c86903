-- Reads of many needles, one after the other.
use Rattle.std.proofs.Common.{◌≡◌, ℕ, zero, suc, ◌+◌, ◌<◌, ◌≤◌, List, [], ◌∷◌, ◌++◌, length, map, take, drop, get_or, refl, arith, sym, ◌∙◌, ap, subst, drop-cons, inl, inr, Option, Some, None, IfSome, Result, Ok, Err}
use Rattle.std.proofs.lemmas.List.{take-append-drop}
use Rattle.sst_base.specs.Entry.{Entry}
use Rattle.sst_base.specs.Header.{◌>>=◌}
use Rattle.sst_base.specs.HeaderLaws.{bind_ok}
use Rattle.sst_base.specs.declared.error.Error.{Error}
use Rattle.sst_base.specs.declared.error.Error.TheVariants.{BadHandle, Memory}
use Rattle.sstable_blocks.specs.ManyReads.{read_each}
use Rattle.sstable_blocks.specs.SourceLaws.{source_fails}
use Rattle.sstable_blocks.specs.Sources.{FailsAs}
use Rattle.sstable_blocks.specs.declared.run.many.Needle.{Needle}

module _ {N : Type 0} (read : N → Result (Option Entry) Error) where
  abbrev after : Option Entry → Result (List (Option Entry)) Error → Result (List (Option Entry)) Error
  after z r = r >>= (λ (zs : List (Option Entry)). Ok (z ∷ zs))

  each_push : (xs : List N) (x : N) (vs : List (Option Entry)) (v : Option Entry) → read_each read xs ≡ Ok vs → read x ≡ Ok v → read_each read (xs ++ x ∷ []) ≡ Ok (vs ++ v ∷ [])
  each_push [] x vs v e h =
      let none : [] ≡ vs = (let k : ◌≡◌ {A = Result (List (Option Entry)) Error} (Ok []) (Ok vs) = e in cc) in
      ap (λ r. r >>= (λ (y : Option Entry). Ok (y ∷ []))) h ∙ ap (λ (ws : List (Option Entry)). Ok (ws ++ v ∷ [])) none
  each_push (y ∷ xs) x vs v e h =
      let a = bind_ok (read y) (λ (z : Option Entry). after z (read_each read xs)) vs e in
      let b = bind_ok (read_each read xs) (λ (zs : List (Option Entry)). Ok (a.0 ∷ zs)) vs a.2 in
      let same : a.0 ∷ b.0 ≡ vs = (let k : ◌≡◌ {A = Result (List (Option Entry)) Error} (Ok (a.0 ∷ b.0)) (Ok vs) = b.2 in cc) in
      ap (λ r. r >>= (λ (z : Option Entry). after z (read_each read (xs ++ x ∷ [])))) a.1 ∙ ap (after a.0) (each_push xs x b.0 v b.1 h) ∙ ap (λ (ws : List (Option Entry)). Ok (ws ++ v ∷ [])) same

  -- after those that succeeded an error is that of all
  each_fails : (xs : List N) (x : N) (ys : List N) (vs : List (Option Entry)) → read_each read xs ≡ Ok vs → (e : Error) → read x ≡ Err e → read_each read (xs ++ x ∷ ys) ≡ Err e
  each_fails [] x ys vs k e h = ap (λ r. r >>= (λ (y : Option Entry). after y (read_each read ys))) h
  each_fails (y ∷ xs) x ys vs k e h =
      let a = bind_ok (read y) (λ (z : Option Entry). after z (read_each read xs)) vs k in
      let b = bind_ok (read_each read xs) (λ (zs : List (Option Entry)). Ok (a.0 ∷ zs)) vs a.2 in
      ap (λ r. r >>= (λ (z : Option Entry). after z (read_each read (xs ++ x ∷ ys)))) a.1 ∙ ap (after a.0) (each_fails xs x ys b.0 b.1 e h)

-- the member of a list at an index, with those before and after it
split_at : {X : Type 0} (xs : List X) (i : ℕ) (x : X) → i < length xs → x ≡ get_or xs i x → drop i xs ≡ x ∷ drop (suc i) xs
split_at xs i x less is = drop-cons xs i x less ∙ ap (λ y. y ∷ drop (suc i) xs) (sym is)

take_next : {X : Type 0} (xs : List X) (i : ℕ) (x : X) → i < length xs → x ≡ get_or xs i x → take (suc i) xs ≡ take i xs ++ x ∷ []
take_next [] i x less is = absurd (omega (arith, less))
take_next (y ∷ ys) zero x less is = ap (λ z. z ∷ []) (sym is)
take_next (y ∷ ys) (suc i) x less is = ap (λ zs. y ∷ zs) (take_next ys i x (omega (arith, less)) is)

-- a member does not depend on what is given for none
pub get_or_any : {X : Type 0} (xs : List X) (i : ℕ) (d e : X) → i < length xs → get_or xs i d ≡ get_or xs i e
get_or_any [] i d e less = absurd (omega (arith, less))
get_or_any (y ∷ ys) zero d e less = refl
get_or_any (y ∷ ys) (suc i) d e less = get_or_any ys i d e (omega (arith, less))

take_all : {X : Type 0} (xs : List X) (i : ℕ) → length xs ≤ i → take i xs ≡ xs
take_all [] zero le = refl
take_all [] (suc i) le = refl
take_all (y ∷ ys) zero le = absurd (omega (arith, le))
take_all (y ∷ ys) (suc i) le = ap (λ zs. y ∷ zs) (take_all ys i (omega (arith, le)))

-- a failed allocation
pub memory_fails : {Y : Type 0} (o : Option (List ℕ)) (P R : Type 0) (read : List ℕ → Result Y Error) → IfSome o (λ all. FailsAs P R (read all) Memory)
memory_fails None P R read = tt
memory_fails (Some all) P R read = λ other. absurd (other refl)

-- reads of needles by a reader
module _ {S R : Type 0} (bytes : S → Option (List ℕ)) (failures reads : S → ℕ) (is_reliable : S → Type 0) (reader_of : R → Option (List ℕ) → Type 0) (answer : R → List ℕ → List ℕ → ℕ → Result (Option Entry) Error) (frames : R → List Needle → ℕ) where
  abbrev pub read_one : R → List ℕ → Needle → Result (Option Entry) Error
  read_one r all n = answer r all n.key.now n.seqno

  -- some needles were read
  pub record IsOnWay (first now : S) (r0 r : R) (needles : List Needle) (i : ℕ) (values : List (Option Entry)) : Type 0 where
    pub same : bytes now ≡ bytes first
    pub grow : failures first ≤ failures now
    pub reliable : is_reliable first → is_reliable now
    pub least : reads first ≤ reads now
    pub asked : reads now + frames r (drop i needles) ≤ reads first + frames r0 needles
    pub reader : reader_of r (bytes first)
    pub answers : answer r ≡ answer r0
    pub values_are : IfSome (bytes first) (λ all. read_each (read_one r0 all) (take i needles) ≡ Ok values)

  pub none_read : (o : Option (List ℕ)) (r : R) (needles : List Needle) → IfSome o (λ all. read_each (read_one r all) (take 0 needles) ≡ Ok [])
  none_read None r needles = tt
  none_read (Some all) r needles = refl

  one_more : (o o' : Option (List ℕ)) (r0 r : R) (needles : List Needle) (i : ℕ) (x : Needle) (values : List (Option Entry)) (v : Option Entry) → o' ≡ o → answer r ≡ answer r0 → i < length needles → x ≡ get_or needles i x
      → IfSome o (λ all. read_each (read_one r0 all) (take i needles) ≡ Ok values) → IfSome o' (λ all. read_one r all x ≡ Ok v) → IfSome o (λ all. read_each (read_one r0 all) (take (suc i) needles) ≡ Ok (values ++ v ∷ []))
  one_more None o' r0 r needles i x values v same answers less is done given = tt
  one_more (Some all) o' r0 r needles i x values v same answers less is done given =
      let here : read_one r all x ≡ Ok v = subst (λ o. IfSome o (λ all. read_one r all x ≡ Ok v)) same given in
      let this : read_one r0 all x ≡ Ok v = sym (ap (λ (f : List ℕ → List ℕ → ℕ → Result (Option Entry) Error). f all x.key.now x.seqno) answers) ∙ here in
      ap (read_each (read_one r0 all)) (take_next needles i x less is) ∙ each_push (read_one r0 all) (take i needles) x values v done this

  -- the frames of the needles that are left
  pub left_of : (r : R) (needles : List Needle) (i : ℕ) (x : Needle) → i < length needles → x ≡ get_or needles i x → frames r (drop i needles) ≡ frames r (x ∷ drop (suc i) needles)
  left_of r needles i x less is = ap (frames r) (split_at needles i x less is)

  -- one needle more
  pub way_next : (first now next : S) (r0 r r' : R) (needles : List Needle) (i j : ℕ) (values values' : List (Option Entry)) (x : Needle) (v : Option Entry) → IsOnWay first now r0 r needles i values → i < length needles → x ≡ get_or needles i x → j ≡ suc i → values' ≡ values ++ v ∷ []
      → bytes next ≡ bytes now → failures now ≤ failures next → (is_reliable now → is_reliable next) → reads now ≤ reads next → ((rest : List Needle) → reads next + frames r' rest ≤ reads now + frames r (x ∷ rest))
      → reader_of r' (bytes now) → answer r' ≡ answer r → IfSome (bytes now) (λ all. read_one r all x ≡ Ok v) → IsOnWay first next r0 r' needles j values'
  way_next first now next r0 r r' needles i j values values' x v w less is at_j more same grow reliable least asks of_this answers given = subst (λ n. IsOnWay first next r0 r' needles n values') (sym at_j) (subst (IsOnWay first next r0 r' needles (suc i)) (sym more) (
      let a = w.asked in
      let b = w.grow in
      let d = w.least in
      let here = left_of r needles i x less is in
      let step = asks (drop (suc i) needles) in
      record {
        same = same ∙ w.same;
        grow = omega (arith, b, grow);
        reliable = λ t. reliable (w.reliable t);
        least = omega (arith, d, least);
        asked = omega (arith, a, here, step);
        reader = subst (reader_of r') w.same of_this;
        answers = answers ∙ w.answers;
        values_are = one_more (bytes first) (bytes now) r0 r needles i x values v w.same w.answers less is w.values_are given;
      }))

  -- the frames of a needle are among those of all
  pub one_of_many : (first now next : S) (r0 r : R) (needles : List Needle) (i : ℕ) (values : List (Option Entry)) (x : Needle) → IsOnWay first now r0 r needles i values → i < length needles → x ≡ get_or needles i x
      → ((rest : List Needle) → reads next ≤ reads now + frames r (x ∷ rest)) → reads next ≤ reads first + frames r0 needles
  one_of_many first now next r0 r needles i values x w less is few =
      let a = w.asked in
      let here = left_of r needles i x less is in
      let step = few (drop (suc i) needles) in
      omega (arith, a, here, step)

  -- all needles were read
  pub way_done : (o : Option (List ℕ)) (r : R) (needles : List Needle) (i : ℕ) (values : List (Option Entry)) → length needles ≤ i → IfSome o (λ all. read_each (read_one r all) (take i needles) ≡ Ok values) → IfSome o (λ all. read_each (read_one r all) needles ≡ Ok values)
  way_done None r needles i values le done = tt
  way_done (Some all) r needles i values le done = ap (read_each (read_one r all)) (sym (take_all needles i le)) ∙ done

  -- a needle whose read fails ends all
  pub way_fails : (o o' : Option (List ℕ)) (r0 r : R) (needles : List Needle) (i : ℕ) (x : Needle) (values : List (Option Entry)) (P Q A T : Type 0) (e : Error) → o' ≡ o → answer r ≡ answer r0 → (P → Q) → (T → A) → i < length needles → x ≡ get_or needles i x
      → IfSome o (λ all. read_each (read_one r0 all) (take i needles) ≡ Ok values) → IfSome o' (λ all. FailsAs P A (read_one r all x) e) → IfSome o (λ all. FailsAs Q T (read_each (read_one r0 all) needles) e)
  way_fails None o' r0 r needles i x values P Q A T e same answers grow reliable less is done fails = tt
  way_fails (Some all) o' r0 r needles i x values P Q A T e same answers grow reliable less is done fails =
      let here : FailsAs P A (read_one r all x) e = subst (λ o. IfSome o (λ all. FailsAs P A (read_one r all x) e)) same fails in
      let this : read_one r all x ≡ read_one r0 all x = ap (λ (f : List ℕ → List ℕ → ℕ → Result (Option Entry) Error). f all x.key.now x.seqno) answers in
      let whole : needles ≡ take i needles ++ x ∷ drop (suc i) needles = sym (take-append-drop i needles) ∙ ap (λ ys. take i needles ++ ys) (split_at needles i x less is) in
      let on : (d : Error) → read_one r all x ≡ Err d → read_each (read_one r0 all) needles ≡ Err d = λ d bad. ap (read_each (read_one r0 all)) whole ∙ each_fails (read_one r0 all) (take i needles) x (drop (suc i) needles) values done d (sym this ∙ bad) in
      λ other. elim (here other) [
        | inl failed ↦ inl (source_fails grow reliable (on BadHandle) failed)
        | inr bad ↦ inr (on e bad)
      ]
