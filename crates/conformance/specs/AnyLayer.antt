-- A layer of any sort: its cells, and what holds of it, by those of its sort. Assumes nothing.
-- cells_by c d o s t l: the cells of the layer l, by the function of its sort
-- Holds C D O S T l: the fact of its sort holds of the layer l
-- formed_by: if each sort's cells are well-formed where its fact holds, so are those of the layer
use Rattle.memory.specs.Meaning.{Meaning, WellFormed}
use Rattle.mapping.specs.declared.armed.ArmedRegisters.{ArmedRegisters}
use Rattle.direct.specs.declared.direct.DirectRegisters.{DirectRegisters}
use Rattle.colour.specs.declared.colour.ColourRegisters.{ColourRegisters}
use Rattle.stride.specs.declared.stride.StrideRegisters.{StrideRegisters}
use Rattle.transpose.specs.declared.transpose.TransposeRegisters.{TransposeRegisters}
use Rattle.window.specs.declared.window.Window.{Window}
use Rattle.cache.specs.declared.layer.Cache.{Cache}
use Rattle.conformance.specs.declared.any_layer.AnyLayer.{AnyLayer}
use Rattle.conformance.specs.declared.any_layer.AnyLayer.TheVariants.{Cached, Direct, Colour, Stride, Transpose}

abbrev pub By : Type 0 → Type 0 → Type 0
By R M = Window (ArmedRegisters R) M R

abbrev pub cells_by : {M : Type 0} → (Cache M → Meaning) → (By DirectRegisters M → Meaning) → (By ColourRegisters M → Meaning) → (By StrideRegisters M → Meaning) → (By TransposeRegisters M → Meaning) → AnyLayer M → Meaning
cells_by c d o s t (Cached l) = c l.value
cells_by c d o s t (Direct l) = d l.value
cells_by c d o s t (Colour l) = o l.value
cells_by c d o s t (Stride l) = s l.value
cells_by c d o s t (Transpose l) = t l.value

abbrev pub Holds : {M : Type 0} → (Cache M → Type 0) → (By DirectRegisters M → Type 0) → (By ColourRegisters M → Type 0) → (By StrideRegisters M → Type 0) → (By TransposeRegisters M → Type 0) → AnyLayer M → Type 0
Holds C D O S T (Cached l) = C l.value
Holds C D O S T (Direct l) = D l.value
Holds C D O S T (Colour l) = O l.value
Holds C D O S T (Stride l) = S l.value
Holds C D O S T (Transpose l) = T l.value

-- one sort
abbrev pub Formed : {L : Type 0} → (L → Type 0) → (L → Meaning) → Type 0
Formed {L} C m = (l : L) → C l → WellFormed (m l)

abbrev pub formed_by : {M : Type 0} {c : Cache M → Meaning} {d : By DirectRegisters M → Meaning} {o : By ColourRegisters M → Meaning} {s : By StrideRegisters M → Meaning} {t : By TransposeRegisters M → Meaning} {C : Cache M → Type 0} {D : By DirectRegisters M → Type 0} {O : By ColourRegisters M → Type 0} {S : By StrideRegisters M → Type 0} {T : By TransposeRegisters M → Type 0}
    → Formed C c → Formed D d → Formed O o → Formed S s → Formed T t
    → (l : AnyLayer M) → Holds C D O S T l → WellFormed (cells_by c d o s t l)
formed_by fc fd fo fs ft (Cached l) h = fc l.value h
formed_by fc fd fo fs ft (Direct l) h = fd l.value h
formed_by fc fd fo fs ft (Colour l) h = fo l.value h
formed_by fc fd fo fs ft (Stride l) h = fs l.value h
formed_by fc fd fo fs ft (Transpose l) h = ft l.value h
