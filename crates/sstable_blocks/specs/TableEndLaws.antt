-- The end of a table file.
use Rattle.std.proofs.Common.{◌≡◌, ℕ, ◌+◌, ◌≤◌, ◌^◌, List, [], ◌++◌, length, arith, refl, length-append, Bool, true, false, cond, Option, Some, None}
use Rattle.std.proofs.KnownBytes.{Appends-trans}
use Rattle.std.specs.Io.KnownBytes.{Appends}
use Rattle.sst_base.specs.Entry.{Entry}
use Rattle.sstable_blocks.specs.Footer.{footer, run_end, run_end_by}
use Rattle.sstable_blocks.specs.Run.{Form, IsLayout, run_text, run_handles}
use Rattle.sstable_blocks.specs.Writing.{AppendsLayout, AppendsTable, TableFits}
use Rattle.sstable_blocks.specs.declared.run.RunHandles.{RunHandles}

pub footer-length : (h : RunHandles) → length (footer h) ≡ 24
unfolding footer
footer-length h = refl

-- the end of a layout, where there is no filter or where there is one
pub end-cases : (none : Bool) (a i p : List ℕ) → length (a ++ (i ++ cond none [] p))
    ≡ run_end_by (record { offset = length a; size = length i }) (cond none None (Some (record { offset = length a + length i; size = length (cond none [] p) })))
end-cases true a i p = omega (arith, length-append a (i ++ []), length-append i [])
end-cases false a i p = omega (arith, length-append a (i ++ p), length-append i p)

pub layout-end : (f : Form) (blocks : List (List Entry)) (bytes : List ℕ) (h : RunHandles) → IsLayout f blocks bytes h → length bytes ≡ run_end h
unfolding run_text run_handles
layout-end f blocks bytes h l = rw (l.text, l.handles) (end-cases _ _ _ _)

-- a run and its footer after it are a table
pub table-of : (f : Form) (blocks : List (List Entry)) (h : RunHandles) (old now after : Option (List ℕ)) (len : ℕ) → AppendsLayout f blocks old now h → Appends now after (footer h)
    → len ≡ run_end h + 24 → AppendsTable f blocks old after h len
table-of f blocks h old now after len l behind is-len = record {
  bytes = l.0 ++ footer h;
  table = record { run = l.0; layout = l.1; text = refl };
  appended = Appends-trans old now after l.0 (footer h) l.2 behind;
  len_is = omega (arith, is-len, length-append l.0 (footer h), footer-length h, layout-end f blocks l.0 h l.1);
}

-- a run with a footer that ends at 2^64 or above doesn't fit
pub not-fits : (f : Form) (blocks : List (List Entry)) (h : RunHandles) (old now : Option (List ℕ)) → AppendsLayout f blocks old now h → 2 ^ 64 ≤ run_end h + 24 → TableFits f blocks → ⊥
not-fits f blocks h old now l long fits = omega (arith, long, layout-end f blocks l.0 h l.1, fits.end l.0 h l.1)
