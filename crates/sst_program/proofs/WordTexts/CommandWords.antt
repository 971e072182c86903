-- The command that words encode, by what each encodes.
use Rattle.std.proofs.Common.{◌≡◌, ℕ, ◌<◌, ◌≤◌, List, [], ◌∷◌, length, drop, take, ◌-◌, length-drop, arith, refl, true, false, ap, sym, ◌∙◌, ◌⊎◌, get_or, Bool, cond}
use Rattle.std.specs.Prelude.{Option, Some, None, nat_le, ◌&&◌, map}
use Rattle.std.specs.Str.{IsUtf8, is_utf8}
use Rattle.std.proofs.lemmas.Bool.Decides.{nat_tests}
use Rattle.std.proofs.lemmas.List.{take_all}
use Rattle.std.proofs.lemmas.Str.{IsUtf8-from_is_utf8, is_utf8-from_IsUtf8}
use Rattle.sstable_blocks.specs.Prelude.{HashRatio}
use Rattle.sstable_blocks.specs.declared.run.RunConfig.{RunConfig}
use Rattle.sst_program.specs.Text.{number_of, between_limits, number_within}
use Rattle.sst_program.specs.Commands.{name_of, point_of_words, pack_of_words, get_of_words, file_of_words, command_named, command_of_words, index_interval_of, query_of, ratio_of, config_of, packing_of, find_of, file_of}

pub within-kept : (least most n : ℕ) → least ≤ n → n ≤ most → between_limits least most n ≡ Some n
within-kept least most n some small =
    let test : (nat_le least n && nat_le n most) ≡ true = grind (arith, nat_tests) in
    rw test refl

pub within-passed : (least most n : ℕ) → (n < least) ⊎ (most < n) → between_limits least most n ≡ None
within-passed least most n h =
    let test : (nat_le least n && nat_le n most) ≡ false = grind (arith, nat_tests) in
    rw test refl

pub number_within-some : (least most : ℕ) (text : List ℕ) (n : ℕ) → number_of text ≡ Some n → number_within least most text ≡ between_limits least most n
unfolding number_within
number_within-some least most text n e = rw e refl

pub number_within-none : (least most : ℕ) (text : List ℕ) → number_of text ≡ None → number_within least most text ≡ None
unfolding number_within
number_within-none least most text e = rw e refl

-- one item
pub map-one : {A : Type 0} (f : A → List ℕ) (ws : List A) (a : A) → 1 ≤ length ws → length ws < 2 → a ≡ get_or ws 0 a → map f ws ≡ f a ∷ []
map-one f [] a h l p = absurd (omega arith)
map-one f (w ∷ []) a h l p = rw p refl
map-one f (w ∷ x ∷ ws) a h l p = absurd (omega arith)

-- three items, one by one
pub map-three : {A : Type 0} (f : A → List ℕ) (ws : List A) (a b c : A) → 3 ≤ length ws → length ws < 4
    → a ≡ get_or ws 0 a → b ≡ get_or ws 1 b → c ≡ get_or ws 2 c → map f ws ≡ f a ∷ f b ∷ f c ∷ []
map-three f [] a b c h l p q r = absurd (omega arith)
map-three f (w ∷ []) a b c h l p q r = absurd (omega arith)
map-three f (w ∷ x ∷ []) a b c h l p q r = absurd (omega arith)
map-three f (w ∷ x ∷ y ∷ []) a b c h l p q r = rw (p, q, r) refl
map-three f (w ∷ x ∷ y ∷ z ∷ ws) a b c h l p q r = absurd (omega arith)

-- six items, one by one, and those after
pub map-six : {A : Type 0} (f : A → List ℕ) (ws : List A) (a b c d e g : A) → 6 ≤ length ws
    → a ≡ get_or ws 0 a → b ≡ get_or ws 1 b → c ≡ get_or ws 2 c → d ≡ get_or ws 3 d → e ≡ get_or ws 4 e → g ≡ get_or ws 5 g
    → map f ws ≡ f a ∷ f b ∷ f c ∷ f d ∷ f e ∷ f g ∷ map f (drop 6 ws)
map-six f [] a b c d e g h p q r s t u = absurd (omega arith)
map-six f (w ∷ []) a b c d e g h p q r s t u = absurd (omega arith)
map-six f (w ∷ x ∷ []) a b c d e g h p q r s t u = absurd (omega arith)
map-six f (w ∷ x ∷ y ∷ []) a b c d e g h p q r s t u = absurd (omega arith)
map-six f (w ∷ x ∷ y ∷ z ∷ []) a b c d e g h p q r s t u = absurd (omega arith)
map-six f (w ∷ x ∷ y ∷ z ∷ v ∷ []) a b c d e g h p q r s t u = absurd (omega arith)
map-six f (w ∷ x ∷ y ∷ z ∷ v ∷ o ∷ ws) a b c d e g h p q r s t u = rw (p, q, r, s, t, u) refl

pub point-too_few : {A : Type 0} (f : A → List ℕ) (ws : List A) → length ws < 3 → point_of_words (map f ws) ≡ None
unfolding point_of_words
point-too_few f [] h = refl
point-too_few f (w ∷ []) h = refl
point-too_few f (w ∷ x ∷ []) h = refl
point-too_few f (w ∷ x ∷ y ∷ []) h = absurd (omega arith)
point-too_few f (w ∷ x ∷ y ∷ z ∷ ws) h = absurd (omega arith)

pub point-too_many : {A : Type 0} (f : A → List ℕ) (ws : List A) → 4 ≤ length ws → point_of_words (map f ws) ≡ None
unfolding point_of_words
point-too_many f [] h = absurd (omega arith)
point-too_many f (w ∷ []) h = absurd (omega arith)
point-too_many f (w ∷ x ∷ []) h = absurd (omega arith)
point-too_many f (w ∷ x ∷ y ∷ []) h = absurd (omega arith)
point-too_many f (w ∷ x ∷ y ∷ z ∷ ws) h = refl

pub point-words : (a b c : List ℕ) → point_of_words (a ∷ b ∷ c ∷ []) ≡ query_of a b c
unfolding point_of_words
point-words a b c = refl

pub get-too_few : {A : Type 0} (f : A → List ℕ) (ws : List A) → length ws < 3 → get_of_words (map f ws) ≡ None
unfolding get_of_words
get-too_few f [] h = refl
get-too_few f (w ∷ []) h = refl
get-too_few f (w ∷ x ∷ []) h = refl
get-too_few f (w ∷ x ∷ y ∷ []) h = absurd (omega arith)
get-too_few f (w ∷ x ∷ y ∷ z ∷ ws) h = absurd (omega arith)

pub get-too_many : {A : Type 0} (f : A → List ℕ) (ws : List A) → 4 ≤ length ws → get_of_words (map f ws) ≡ None
unfolding get_of_words
get-too_many f [] h = absurd (omega arith)
get-too_many f (w ∷ []) h = absurd (omega arith)
get-too_many f (w ∷ x ∷ []) h = absurd (omega arith)
get-too_many f (w ∷ x ∷ y ∷ []) h = absurd (omega arith)
get-too_many f (w ∷ x ∷ y ∷ z ∷ ws) h = refl

pub get-words : (a b c : List ℕ) → get_of_words (a ∷ b ∷ c ∷ []) ≡ find_of a b c
unfolding get_of_words
get-words a b c = refl

pub pack-other_count : {A : Type 0} (f : A → List ℕ) (ws : List A) → length ws < 6 → pack_of_words (map f ws) ≡ None
unfolding pack_of_words
pack-other_count f [] h = refl
pack-other_count f (w ∷ []) h = refl
pack-other_count f (w ∷ x ∷ []) h = refl
pack-other_count f (w ∷ x ∷ y ∷ []) h = refl
pack-other_count f (w ∷ x ∷ y ∷ z ∷ []) h = refl
pack-other_count f (w ∷ x ∷ y ∷ z ∷ v ∷ []) h = refl
pack-other_count f (w ∷ x ∷ y ∷ z ∷ v ∷ o ∷ ws) h = absurd (omega arith)

pub pack-words : (a b c d e g : List ℕ) (words : List (List ℕ)) → pack_of_words (a ∷ b ∷ c ∷ d ∷ e ∷ g ∷ words) ≡ packing_of a (config_of b (ratio_of c d) e (index_interval_of words)) g
unfolding pack_of_words
pack-words a b c d e g words = refl

pub file-too_few : {A : Type 0} (f : A → List ℕ) (ws : List A) → length ws < 1 → file_of_words (map f ws) ≡ None
unfolding file_of_words
file-too_few f [] h = refl
file-too_few f (w ∷ []) h = absurd (omega arith)
file-too_few f (w ∷ x ∷ ws) h = absurd (omega arith)

pub file-too_many : {A : Type 0} (f : A → List ℕ) (ws : List A) → 2 ≤ length ws → file_of_words (map f ws) ≡ None
unfolding file_of_words
file-too_many f [] h = absurd (omega arith)
file-too_many f (w ∷ []) h = absurd (omega arith)
file-too_many f (w ∷ x ∷ ws) h = refl

pub file-words : (a : List ℕ) → file_of_words (a ∷ []) ≡ file_of a
unfolding file_of_words
file-words a = refl

pub interval-none : {A : Type 0} (f : A → List ℕ) (ws : List A) → length ws < 1 → index_interval_of (map f ws) ≡ Some 1
unfolding index_interval_of
interval-none f [] h = refl
interval-none f (w ∷ ws) h = absurd (omega arith)

pub interval-one : (a : List ℕ) → index_interval_of (a ∷ []) ≡ number_within 1 255 a
unfolding index_interval_of
interval-one a = refl

pub interval-more : {A : Type 0} (f : A → List ℕ) (ws : List A) → 2 ≤ length ws → index_interval_of (map f ws) ≡ None
unfolding index_interval_of
interval-more f [] h = absurd (omega arith)
interval-more f (w ∷ []) h = absurd (omega arith)
interval-more f (w ∷ x ∷ ws) h = refl

pub file-utf8 : (word name : List ℕ) → name ≡ word → IsUtf8 word → file_of word ≡ Some name
file-utf8 word name e u = let test = is_utf8-from_IsUtf8 word u in rw (test, e) refl

file-cases : (word : List ℕ) (b : Bool) → b ≡ is_utf8 word → (IsUtf8 word → ⊥) → cond b (Some word) None ≡ None
file-cases word true e h = absurd (h (IsUtf8-from_is_utf8 word (sym e)))
file-cases word false e h = refl

pub file-other : (word : List ℕ) → (IsUtf8 word → ⊥) → file_of word ≡ None
file-other word h = file-cases word (is_utf8 word) refl h

pub command-none : {A : Type 0} (f : A → List ℕ) (ws : List A) → length ws ≡ 0 → command_of_words (map f ws) ≡ None
unfolding command_of_words
command-none f [] h = refl
command-none f (w ∷ ws) h = absurd (omega arith)

pub command-words : {A : Type 0} (f : A → List ℕ) (ws : List A) (a : A) (rest : List A) → ws ≡ a ∷ rest → command_of_words (map f ws) ≡ command_named (name_of (f a)) (map f rest)
unfolding command_of_words
command-words f ws a rest e = rw e refl

pub point-found : {A : Type 0} (f : A → List ℕ) (ws : List A) (a b c : A) (x y z : List ℕ) → 3 ≤ length ws → length ws < 4
    → a ≡ get_or ws 0 a → b ≡ get_or ws 1 b → c ≡ get_or ws 2 c → x ≡ f a → y ≡ f b → z ≡ f c → point_of_words (map f ws) ≡ query_of x y z
point-found f ws a b c x y z h l p q r e g k =
    ap point_of_words (map-three f ws a b c h l p q r) ∙ point-words (f a) (f b) (f c) ∙ rw (e, g, k) refl

pub get-found : {A : Type 0} (f : A → List ℕ) (ws : List A) (a b c : A) (x y z : List ℕ) → 3 ≤ length ws → length ws < 4
    → a ≡ get_or ws 0 a → b ≡ get_or ws 1 b → c ≡ get_or ws 2 c → x ≡ f a → y ≡ f b → z ≡ f c → get_of_words (map f ws) ≡ find_of x y z
get-found f ws a b c x y z h l p q r e g k =
    ap get_of_words (map-three f ws a b c h l p q r) ∙ get-words (f a) (f b) (f c) ∙ rw (e, g, k) refl

-- the words of `pack`, with what its parts are
pub pack-found : {A : Type 0} (f : A → List ℕ) (ws : List A) (a b c d e g : A) (file interval num den bits per_block : List ℕ) (ratio : Option HashRatio) (q : Option ℕ) (config : Option RunConfig) → 6 ≤ length ws
    → a ≡ get_or ws 0 a → b ≡ get_or ws 1 b → c ≡ get_or ws 2 c → d ≡ get_or ws 3 d → e ≡ get_or ws 4 e → g ≡ get_or ws 5 g
    → file ≡ f a → interval ≡ f b → num ≡ f c → den ≡ f d → bits ≡ f e → per_block ≡ f g
    → ratio ≡ ratio_of num den → q ≡ index_interval_of (map f (take (length ws - 6) (drop 6 ws))) → config ≡ config_of interval ratio bits q → pack_of_words (map f ws) ≡ packing_of file config per_block
pack-found f ws a b c d e g file interval num den bits per_block ratio q config h p0 p1 p2 p3 p4 p5 q0 q1 q2 q3 q4 q5 is-ratio is-q is-config =
    ap pack_of_words (map-six f ws a b c d e g h p0 p1 p2 p3 p4 p5)
    ∙ pack-words (f a) (f b) (f c) (f d) (f e) (f g) (map f (drop 6 ws))
    ∙ (let rest : take (length ws - 6) (drop 6 ws) ≡ drop 6 ws = take_all (length ws - 6) (drop 6 ws) (omega (arith, length-drop 6 ws)) in rw (is-config, is-ratio, is-q, rest, q0, q1, q2, q3, q4, q5) refl)
