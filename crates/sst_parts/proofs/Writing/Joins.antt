-- Lists of lists of lists: joined part by part, they are the list.
use Rattle.std.proofs.Common.{◌≡◌, List, [], ◌∷◌, ◌++◌, map, refl, sym, ◌∙◌, ap, append_assoc}
use Rattle.std.specs.List.{AllZip}
use Rattle.sstable_blocks.specs.Blocks.{joined}

pub joined-append : {X : Type 0} (xs ys : List (List X)) → joined (xs ++ ys) ≡ joined xs ++ joined ys
joined-append [] ys = refl
joined-append (x ∷ xs) ys = ap (λ zs. x ++ zs) (joined-append xs ys) ∙ sym (append_assoc x (joined xs) (joined ys))

-- the blocks of parts, joined part by part, or all at once
pub joined-map : {X : Type 0} (parts : List (List (List X))) → joined (map joined parts) ≡ joined (joined parts)
joined-map [] = refl
joined-map (p ∷ ps) = ap (λ zs. joined p ++ zs) (joined-map ps) ∙ sym (joined-append p (joined ps))

-- a relation between members of two lists, one of which is an image
pub zip-map : {X Y Z : Type 0} (f : X → Y) (R : Y → Z → Type 0) (xs : List X) (zs : List Z) → AllZip (λ x z. R (f x) z) xs zs → AllZip R (map f xs) zs
zip-map f R [] [] zip = tt
zip-map f R [] (z ∷ zs) zip = absurd zip
zip-map f R (x ∷ xs) [] zip = absurd zip
zip-map f R (x ∷ xs) (z ∷ zs) zip = (zip.0, zip-map f R xs zs zip.1)
