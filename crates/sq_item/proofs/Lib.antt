mod ItemRows
