use Rattle.sst_parts.proofs.any_scan.AnyScan.next_entry.Goals as goal

pub returns-in-Plain-clause-first : goal.returns-in-Plain-clause-first
returns-in-Plain-clause-first g c = rw c.in-Plain.is c.next_entry.ensures.first

pub returns-in-Parted-clause-first : goal.returns-in-Parted-clause-first
returns-in-Parted-clause-first g c = rw c.in-Parted.is c.next_entry-in-Parted.ensures.first

pub returns-in-Plain-clause-looked : goal.returns-in-Plain-clause-looked
returns-in-Plain-clause-looked g c = rw c.in-Plain.is c.next_entry.ensures.looked

pub returns-in-Plain-clause-counts : goal.returns-in-Plain-clause-counts
returns-in-Plain-clause-counts g c = rw c.in-Plain.is c.next_entry.ensures.counts
