-- The senders of a text, as contracts see them.
use Rattle.ea_report.specs.Delivery.{Delivery, all_sent}
use Rattle.ea_report.specs.declared.direct_text.Direct.{Direct}
use Rattle.ea_report.specs.declared.pending_text.Pending.{Pending}

-- A text that is sent in large pieces.
abbrev pub delivery_of : Pending → Delivery
delivery_of pending = record { pending = pending.text.items; written = pending.written; interruptions = pending.interruptions }

-- A text that is sent at once.
abbrev pub direct_delivery : Direct → Delivery
direct_delivery direct = all_sent direct.written direct.interruptions
