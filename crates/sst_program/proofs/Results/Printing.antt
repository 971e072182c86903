-- Printing through a buffer: what is put after what waits in it.
use Rattle.std.specs.Prelude.{slice_index, nat_eq}
use Rattle.std.proofs.Common.{◌≡◌, ◌/◌, ◌%◌, true, ℕ, length, arith, List, [], ◌∷◌, ◌++◌, refl, sym, ◌∙◌, ap, subst, append_assoc, append-nil, Option, Some, None}
use Rattle.std.specs.Io.KnownBytes.{append_known}
use Rattle.std.proofs.KnownBytes.{Appends-nil, Appends-trans}
use Rattle.hex.specs.Hex.{encode_with, encode_lower, lower_digits}
use Rattle.sstable_blocks.specs.Prelude.{Entry, Scan, GivesScanned, Window, items_left, whole, entry_of, IsParsedEntry, DataBlockParsedItem}
use Rattle.sstable_blocks.specs.ValueTypes.{ValueType}
use Rattle.sstable_blocks.specs.BlockLaws.{next_some, next_none, items_left-whole}
use Rattle.sst_program.specs.Line.{entry_line_of, letter_of, byte_text_of}
use Rattle.sst_program.specs.Outcome.{Puts, lines_text_of}
use Rattle.sst_program.proofs.Results.Outcomes.{none-from_test}
use Rattle.std.specs.Fmt.{decimal}

pub puts_nothing : (a : Option (List ℕ)) (u : List ℕ) → Puts a u a u []
puts_nothing a u = record { grown = Appends-nil (append_known a u) }

pub puts_then : (a b c : Option (List ℕ)) (u v w s t : List ℕ) → Puts a u b v s → Puts b v c w t → Puts a u c w (s ++ t)
puts_then a b c u v w s t p q = record { grown = Appends-trans (append_known a u) (append_known b v) (append_known c w) s t p.grown q.grown }

-- a part of a text was put, and this is left of it
pub record PutsTo (a : Option (List ℕ)) (u : List ℕ) (b : Option (List ℕ)) (v left all : List ℕ) : Type 0 where
  pub text : List ℕ
  pub puts : Puts a u b v text
  pub rest : text ++ left ≡ all

pub puts_start : (a : Option (List ℕ)) (u left all : List ℕ) → left ≡ all → PutsTo a u a u left all
puts_start a u left all e = record { text = []; puts = puts_nothing a u; rest = e }

pub puts_next : (a b c : Option (List ℕ)) (u v w left more part all : List ℕ) → PutsTo a u b v left all → Puts b v c w part → left ≡ part ++ more → PutsTo a u c w more all
puts_next a b c u v w left more part all p q e = record {
  text = p.text ++ part;
  puts = puts_then a b c u v w p.text part p.puts q;
  rest = append_assoc p.text part more ∙ ap (λ t. p.text ++ t) (sym e) ∙ p.rest;
}

pub puts_end : (a b : Option (List ℕ)) (u v left all : List ℕ) → PutsTo a u b v left all → left ≡ [] → Puts a u b v all
puts_end a b u v left all p e = subst (Puts a u b v) (sym (append-nil p.text) ∙ ap (λ t. p.text ++ t) (sym e) ∙ p.rest) p.puts

-- hex digits of joined bytes
pub encode-append : (t a b : List ℕ) → encode_with t (a ++ b) ≡ encode_with t a ++ encode_with t b
unfolding encode_with
encode-append t [] b = refl
encode-append t (x ∷ a) b = ap (λ ys. slice_index t (x / 16) ∷ (slice_index t (x % 16) ∷ ys)) (encode-append t a b)

pub encode-empty : encode_lower [] ≡ []
unfolding encode_with
encode-empty = refl

pub encode-cut : (whole part behind : List ℕ) → whole ≡ part ++ behind → encode_lower whole ≡ encode_lower part ++ encode_lower behind
encode-cut whole part behind e = ap (λ t. encode_lower t) e ∙ encode-append lower_digits part behind

-- nothing is left, by the test of its length
nothing-left : (rest : List ℕ) → true ≡ nat_eq (length rest) 0 → rest ≡ []
nothing-left [] h = refl
nothing-left (b ∷ rest) h = let none : length (b ∷ rest) ≡ 0 = none-from_test (length (b ∷ rest)) h in absurd (omega arith)

pub encode-over : (rest : List ℕ) → true ≡ nat_eq (length rest) 0 → encode_lower rest ≡ []
encode-over rest h = ap (λ t. encode_lower t) (nothing-left rest h) ∙ encode-empty

-- a key in two parts
pub puts_joined : (a b c : Option (List ℕ)) (u v w p q whole : List ℕ) → Puts a u b v (encode_lower p) → Puts b v c w (encode_lower q) → p ++ q ≡ whole → Puts a u c w (encode_lower whole)
puts_joined a b c u v w p q whole first second e =
    subst (Puts a u c w) (sym (encode-cut whole p q (sym e))) (puts_then a b c u v w (encode_lower p) (encode_lower q) first second)

-- the parts of a line
pub puts_line : (e : Entry) (type : ValueType) (seqno : ℕ) (value : List ℕ) (a b c d f h : Option (List ℕ)) (u v w x y z : List ℕ)
    → Puts a u b v ((letter_of type ∷ 32 ∷ []) ++ decimal seqno ++ (32 ∷ [])) → type ≡ e.key.value_type → seqno ≡ e.key.seqno
    → Puts b v c w (encode_lower e.key.user_key) → Puts c w d x (32 ∷ []) → Puts d x f y (byte_text_of value) → value ≡ e.value → Puts f y h z (10 ∷ []) → Puts a u h z (entry_line_of e ++ (10 ∷ []))
puts_line e type seqno value a b c d f h u v w x y z front same_type same_seqno key space text same feed =
    let start = subst (λ t. Puts a u b v ((letter_of t ∷ 32 ∷ []) ++ decimal e.key.seqno ++ (32 ∷ []))) same_type
    (subst (λ n. Puts a u b v ((letter_of type ∷ 32 ∷ []) ++ decimal n ++ (32 ∷ []))) same_seqno front) in
    let line = subst (λ t. Puts d x f y (byte_text_of t)) same text in
    puts_then a f h u y z _ _ (puts_then a d f u x y _ _ (puts_then a c d u w x _ _ (puts_then a b c u v w _ _ start key) space) line) feed

-- a step of the iterator over a block: the line of its entry, and those left
pub lines_step : (s t : Scan Entry) (p : DataBlockParsedItem) → GivesScanned entry_of IsParsedEntry s (Some p) t
    → lines_text_of (items_left s.window) ≡ (entry_line_of (entry_of s.payload p) ++ (10 ∷ [])) ++ lines_text_of (items_left t.window)
lines_step s t p gives =
    ap lines_text_of (next_some s.window t.window (entry_of s.payload p) gives.step).0
    ∙ sym (append_assoc (entry_line_of (entry_of s.payload p)) (10 ∷ []) (lines_text_of (items_left t.window)))

pub lines_whole : (w : Window Entry) (items : List Entry) → w ≡ whole items → lines_text_of (items_left w) ≡ lines_text_of items
lines_whole w items e = ap (λ (v : Window Entry). lines_text_of (items_left v)) e ∙ ap lines_text_of (items_left-whole items)

pub lines_over : (s t : Scan Entry) → GivesScanned entry_of IsParsedEntry s None t → lines_text_of (items_left s.window) ≡ []
lines_over s t gives = ap lines_text_of (next_none s.window t.window gives.step).0

-- the line of an entry, put after those before it
pub puts_entry : (s t : Scan Entry) (p : DataBlockParsedItem) (e : Entry) (a b c : Option (List ℕ)) (u v w payload all : List ℕ) → PutsTo a u b v (lines_text_of (items_left s.window)) all
    → Puts b v c w (entry_line_of e ++ (10 ∷ [])) → e ≡ entry_of payload p → s.payload ≡ payload → GivesScanned entry_of IsParsedEntry s (Some p) t → PutsTo a u c w (lines_text_of (items_left t.window)) all
puts_entry s t p e a b c u v w payload all before line is same gives =
    puts_next a b c u v w (lines_text_of (items_left s.window)) (lines_text_of (items_left t.window)) (entry_line_of (entry_of s.payload p) ++ (10 ∷ [])) all before
    (subst (λ q. Puts b v c w (entry_line_of q ++ (10 ∷ []))) (is ∙ ap (λ q. entry_of q p) (sym same)) line) (lines_step s t p gives)
