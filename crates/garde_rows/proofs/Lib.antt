mod Cells
mod Header
mod Results
mod Whole
