use Rattle.std.proofs.Common.{◌≡◌, Ok, subst, sym, ap, ◌∙◌}
use Rattle.sstable_blocks.specs.Footer.{table_handles}
use Rattle.sstable_blocks.specs.RunReading.{hashes}
use Rattle.sstable_blocks.specs.Sound.{IsSound, IsSoundRun, RunParts}
use Rattle.sstable_blocks.specs.declared.run.RunHandles.{RunHandles}
use Rattle.sstable_blocks.specs.RunPlaces.{part_in}
use Rattle.sst_parts.proofs.Checks.PartFinds.{has_places, inside, sound_at}
use Rattle.sst_parts.proofs.parted_ref.run_of.Goals as goal

pub part_of-file-requires : goal.part_of-file-requires
part_of-file-requires g c =
    let w = c.requires in
    inside (hashes g.H.BlockHash.hash64 g.H.BlockHash.hash128) c.args.bytes.now c.args.part.now w.0 w.1 w.2 w.3

pub places_of-places-requires : goal.places_of-places-requires
places_of-places-requires g c =
    let w = c.requires in
    subst (λ xs. (p : RunHandles) × (table_handles xs ≡ Ok p)) (sym c.part_of-file.ensures) (has_places (hashes g.H.BlockHash.hash64 g.H.BlockHash.hash128) c.args.bytes.now c.args.part.now w.0 w.1 w.2 w.3)

pub new-requires : goal.new-requires
new-requires g c =
    let k = hashes g.H.BlockHash.hash64 g.H.BlockHash.hash128 in
    let w = c.requires in
    let e = c.part_of-file.ensures in
    let places = c.places_of-places.result in
    subst (λ xs. IsSoundRun k xs places) (sym e) (w.0, sound_at k c.args.bytes.now c.args.part.now w.0 w.1 w.2 w.3 places (ap table_handles (sym e) ∙ c.places_of-places.ensures))

pub returns-clause-handles : goal.returns-clause-handles
returns-clause-handles g c =
    ap table_handles (sym c.part_of-file.ensures) ∙ c.places_of-places.ensures ∙ ap (λ (r : RunParts). Ok r.handles) (sym c.new.ensures)

pub returns-clause-sound : goal.returns-clause-sound
returns-clause-sound g c = λ blocks h is stored.
    let k = hashes g.H.BlockHash.hash64 g.H.BlockHash.hash128 in
    let e = c.part_of-file.ensures in
    let places = c.places_of-places.result in
    let sound : IsSound k blocks (part_in c.args.bytes.now c.args.part.now) places = sound_at k c.args.bytes.now c.args.part.now blocks h is stored places (ap table_handles (sym e) ∙ c.places_of-places.ensures) in
    subst (λ (r : RunParts). IsSound k blocks r.bytes r.handles) (sym c.new.ensures) (subst (λ xs. IsSound k blocks xs places) (sym e) sound)
