use Rattle.sst_parts.proofs.any_scan.AnyScan.next_entry_back.Goals as goal

pub returns-in-Plain-clause-last : goal.returns-in-Plain-clause-last
returns-in-Plain-clause-last g c = rw c.in-Plain.is c.next_entry_back.ensures.last

pub returns-in-Parted-clause-last : goal.returns-in-Parted-clause-last
returns-in-Parted-clause-last g c = rw c.in-Parted.is c.next_entry_back-in-Parted.ensures.last

pub returns-in-Plain-clause-looked : goal.returns-in-Plain-clause-looked
returns-in-Plain-clause-looked g c = rw c.in-Plain.is c.next_entry_back.ensures.looked

pub returns-in-Plain-clause-counts : goal.returns-in-Plain-clause-counts
returns-in-Plain-clause-counts g c = rw c.in-Plain.is c.next_entry_back.ensures.counts
