use Rattle.std.proofs.Common.{◌∙◌, ◌≡◌, Some, ap, subst}
use Rattle.sst_block_core.specs.ParsedEntry.{entry_of, IsParsedEntry}
use Rattle.sst_block_core.proofs.Items.MadeEntries.{made_first}
use Rattle.sst_block_core.proofs.table.data_block.into_entries.IntoEntries.next_entry.Goals.{in-Ok, in-Err}
use Rattle.sst_block_core.proofs.table.data_block.into_entries.IntoEntries.next_entry.Goals as goal

pub returns-clause-first : goal.returns-clause-first
returns-clause-first g c =
    made_first entry_of IsParsedEntry _ _ (Some c.in-Some.item) c.match-materialize.result c.in-Some.ensures.steps
    (elim c.match-materialize.branch [
      | in-Ok w ↦ rw w.result-is (subst (λ v. Some w.in-Ok.entry ≡ Some (entry_of v.payload c.in-Some.item)) c.self.view_is
          (ap (λ x. Some x) (w.in-Ok.ensures.ok ∙ ap (λ bytes. entry_of bytes c.in-Some.item) c.as_slice.ensures.value)))
      | in-Err w ↦ rw w.result-is tt
    ])
