-- The last item of a list that ends with one.
use Rattle.std.specs.Prelude.{◌≡◌, List, [], ◌∷◌, ◌++◌, Option, Some, refl}
use Rattle.std.specs.List.{last_or}

last_or-push : {V : Type 0} (o : Option V) (xs : List V) (x : V) → last_or o (xs ++ x ∷ []) ≡ Some x
last_or-push o [] x = refl
last_or-push o (y ∷ xs) x = last_or-push (Some y) xs x

pub last_or-append : {V : Type 0} (o : Option V) (xs ys : List V) (x : V) → last_or o (xs ++ (ys ++ x ∷ [])) ≡ Some x
last_or-append o [] ys x = last_or-push o ys x
last_or-append o (y ∷ xs) ys x = last_or-append (Some y) xs ys x
