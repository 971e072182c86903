-- Lists of what items stand for.
use Rattle.std.proofs.Common.{◌≡◌, ◌∙◌, ◌-◌, ℕ, zero, suc, List, [], ◌∷◌, length, take, drop, map, get_or, Some, refl, sym, ap}
use Rattle.std.proofs.lemmas.List.{length-map}
use Rattle.std.proofs.lemmas.Option.{slice_get-map}
use Rattle.std.specs.List.{slice_get}
use Rattle.std.specs.Option.{option_map}
use Rattle.sst_block_core.specs.BodyLaws.{get_or-map_own}

module _ {X Y : Type 0} (f : X → Y) where
  pub get_mapped : (xs : List X) (i : ℕ) (x : X) → slice_get xs i ≡ Some x → slice_get (map f xs) i ≡ Some (f x)
  get_mapped xs i x at = slice_get-map f xs i ∙ ap (option_map f) at

  map-take : (n : ℕ) (xs : List X) → map f (take n xs) ≡ take n (map f xs)
  map-take zero xs = refl
  map-take (suc n) [] = refl
  map-take (suc n) (x ∷ xs) = ap (λ zs. f x ∷ zs) (map-take n xs)

  map-drop : (n : ℕ) (xs : List X) → map f (drop n xs) ≡ drop n (map f xs)
  map-drop zero xs = refl
  map-drop (suc n) [] = refl
  map-drop (suc n) (x ∷ xs) = map-drop n xs

  pub front_mapped : (n : ℕ) (xs ys : List X) → ys ≡ take n xs → map f ys ≡ take n (map f xs)
  front_mapped n xs ys e = ap (map f) e ∙ map-take n xs

  pub back_mapped : (n : ℕ) (xs ys : List X) → ys ≡ drop n xs → map f ys ≡ drop n (map f xs)
  back_mapped n xs ys e = ap (map f) e ∙ map-drop n xs

  -- a last item
  pub last_mapped : (xs : List X) (x : X) → x ≡ get_or xs (length xs - 1) x → f x ≡ get_or (map f xs) (length (map f xs) - 1) (f x)
  last_mapped xs x e = ap f e ∙ sym (get_or-map_own f xs (length xs - 1) x) ∙ ap (λ n. get_or (map f xs) (n - 1) (f x)) (sym (length-map xs f))
