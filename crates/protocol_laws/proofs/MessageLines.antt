-- The starred lines of document 01's "Bytes to try", all of them, by a computed test.
use mathlib.Core.Path.{refl}
use Rattle.varint.proofs.BytesToTry.{same, agree, agree_holds, holds_append}
use Rattle.varint.specs.Formats.{read_times}
use Rattle.varint.specs.Leb128.{read_from, get_u64}
use Rattle.varint.specs.Stores.{part}
use Rattle.varint.specs.Texts.{skim_text, get_text, get_name}
use Rattle.varint.specs.Tried.{Holds}
use Rattle.varint.specs.Utf8.{lead, scan, utf8}
use Rattle.desc.specs.Tried.{desc_lines}
use Rattle.desc.proofs.DescLines.{desc_lines_lem}
use Rattle.protocol.specs.Control.{read_control, lay_control}
use Rattle.protocol.specs.Fetch.{read_fetch}
use Rattle.protocol.specs.Listing.{read_listing, lay_listing}
use Rattle.protocol.specs.Ready.{read_ready}
use Rattle.protocol.specs.Said.{read_entry, read_message, lay}
use Rattle.protocol_laws.specs.MessageLines.{message_lines, session_lines}

message_lines_lem : Holds message_lines
unfolding same agree get_u64 read_from read_times part skim_text get_text get_name utf8 scan lead read_control read_fetch read_listing read_ready read_entry read_message lay lay_control lay_listing message_lines
message_lines_lem = agree_holds message_lines refl

pub session_lines_lem : Holds session_lines
session_lines_lem = holds_append desc_lines message_lines desc_lines_lem message_lines_lem
