-- The code's record, read as the definitions' record: the same seven fields.
use Rattle.rules.specs.Record.{Filter}
use Rattle.filter.specs.declared.Record.{Record}

abbrev pub plain : Record → Filter
plain r = record { k = r.k; start = r.start; f = r.f; regime = r.regime; used = r.used; queued = r.queued; dir = r.dir }
