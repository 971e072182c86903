use Rattle.sst_parts.proofs.any_table.AnyTable.get_many.Goals as goal

pub returns-in-Plain-clause-exact : goal.returns-in-Plain-clause-exact
returns-in-Plain-clause-exact g c = rw c.in-Plain.is c.get_many.ensures.exact

pub returns-in-Parted-clause-exact : goal.returns-in-Parted-clause-exact
returns-in-Parted-clause-exact g c = rw c.in-Parted.is c.get_many-in-Parted.ensures.exact

pub returns-in-Plain-clause-sound : goal.returns-in-Plain-clause-sound
returns-in-Plain-clause-sound g c = rw c.in-Plain.is c.get_many.ensures.sound

pub returns-in-Parted-clause-sound : goal.returns-in-Parted-clause-sound
returns-in-Parted-clause-sound g c = rw c.in-Parted.is c.get_many-in-Parted.ensures.sound
