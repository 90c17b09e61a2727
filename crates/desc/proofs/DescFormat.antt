-- A descriptor is a format like any other: what is printed is read back, only what is printed is read, and whatever is read is fine.
use Prim.Native.Nat.{ℕ}
use Rattle.varint.specs.RoundTrips.{Back, Forth, TextOk}
use Rattle.varint.proofs.FormatGives.{Gives}
use Rattle.desc.specs.WellFormed.{Fine, descriptor}
use Rattle.desc.proofs.FineRead.{desc_fine}
use Rattle.desc.proofs.OnePrint.{print_read}
use Rattle.desc.proofs.ReadPrint.{read_print}

pub descriptor_back : (limit : ℕ) → Back (descriptor limit) (Fine TextOk limit)
descriptor_back limit = record { back = read_print limit limit }

pub descriptor_forth : (limit : ℕ) → Forth (descriptor limit)
descriptor_forth limit = record { forth = λ s at tr q B l e. print_read limit limit s at tr q B l e }

pub descriptor_gives : (limit : ℕ) → Gives (descriptor limit) (Fine TextOk limit)
descriptor_gives limit = record { gives = λ s at tr q B e. desc_fine limit limit s at tr q e }
