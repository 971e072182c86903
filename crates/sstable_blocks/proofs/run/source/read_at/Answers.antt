use Rattle.std.proofs.Common.{◌∙◌, subst, Some, IfSome, drop, ◌≡◌, List, ℕ, Option}
use Rattle.sst_base.specs.Header.{bytes_at}
use Rattle.sst_base.specs.Inputs.{ReadsAllocating}
use Rattle.sstable_blocks.proofs.Reading.FileRanges.{file_range}
use Rattle.sstable_blocks.proofs.run.source.read_at.Goals as goal

pub returns-clause-range : goal.returns-clause-range
returns-clause-range g c =
    let h = c.args.handle.now in
    let moved = g.F.Read.remaining c.move_to.new.self in
    let left = g.F.Read.remaining c.from_reader.new.reader in
    let over = g.F.Input.is_memory c.move_to.new.self in
    let at = c.deref.ensures ∙ c.offset.ensures in
    let same = c.in_ok-check_range.ensures.whole in
    let is : IfSome (g.F.Input.whole c.args.file.now) (λ all. moved ≡ Some (drop h.offset all)) =
    subst (λ (n : ℕ). IfSome (g.F.Input.whole c.args.file.now) (λ all. moved ≡ Some (drop n all))) at
    (subst (λ (o : Option (List ℕ)). IfSome o (λ all. moved ≡ Some (drop c.deref.result.now all))) same c.in_ok-move_to.ensures.left) in
    file_range (g.F.Input.whole c.args.file.now) h (g.F.Input.is_memory c.args.file.now) over c.from_reader.result moved left
    (λ m. c.in_ok-move_to.ensures.kept (c.in_ok-check_range.ensures.kept m)) c.in_ok-check_range.ensures.range is
    (λ bytes known. subst (λ (n : ℕ). ReadsAllocating over c.from_reader.result left (bytes_at n bytes)) c.size.ensures (c.from_reader.ensures.read bytes known))
