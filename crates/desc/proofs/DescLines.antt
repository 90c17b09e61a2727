-- The starred lines of document 01's "Bytes to try", up to descriptors, by a computed test.
use mathlib.Core.Path.{refl}
use Rattle.varint.proofs.BytesToTry.{same, agree, agree_holds, holds_append, varint_lines_lem}
use Rattle.varint.specs.Leb128.{read_from, get_u64}
use Rattle.varint.specs.Stores.{part}
use Rattle.varint.specs.Texts.{skim_text, get_text, get_name}
use Rattle.varint.specs.Tried.{Holds, varint_lines}
use Rattle.varint.specs.Utf8.{lead, scan, utf8}
use Rattle.desc.specs.Layout.{texts, placed, nodes_of}
use Rattle.desc.specs.Reading.{head_at, label_at, children, desc}
use Rattle.desc.specs.Trees.{kid_count, size}
use Rattle.desc.specs.Tried.{own_lines, desc_lines}

own_lines_lem : Holds own_lines
unfolding same agree get_u64 read_from part skim_text get_text get_name utf8 scan lead texts placed nodes_of head_at label_at children desc kid_count size own_lines
own_lines_lem = agree_holds own_lines refl

pub desc_lines_lem : Holds desc_lines
desc_lines_lem = holds_append varint_lines own_lines varint_lines_lem own_lines_lem
